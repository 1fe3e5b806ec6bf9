-- What comparisons answer at values of the types that they take.
use Rattle.std.proofs.Common.{◌≡◌, ℕ, Bool, true, false, ◌&&◌, ◌||◌, Some, refl, ap, subst}
use Rattle.dscript_value.specs.Equality.{equal_of, unanswered}
use Rattle.dscript_value.specs.Equality as equality
use Rattle.dscript_value.specs.declared.parts.Callee.{Callee}
use Rattle.dscript_value.specs.Plain as plain
use Rattle.dscript_value.specs.Plain.{Plain, Items, Members}
use Rattle.dscript_types_meaning.specs.declared.kind.Kind.TheVariants as kinds
use Rattle.dscript_types_meaning.specs.Types.{TypeData, members_of}
use Rattle.dscript_types_meaning.specs.Unions.{can_be_list, can_be_object, is_list, is_object}
use Rattle.dscript_types_meaning.specs.Operators.{boolean_type, may_be_alike}
use Rattle.dscript_types_meaning.specs.Values.{HasType, IsOf}
use Rattle.dscript_types_values.proofs.Among.{among_any}
use Rattle.dscript_types_values.proofs.Fitting.{kind_has}
use Rattle.dscript_types_values.proofs.Joining.{of_has}

listed_form : (x : Plain) → equality.is_list x ≡ true → (depth : ℕ) × (xs : Items) × (x ≡ plain.Listed depth xs)
listed_form plain.Undefined e = absurd cc
listed_form (plain.Flag flag) e = absurd cc
listed_form (plain.Number number) e = absurd cc
listed_form (plain.Text text) e = absurd cc
listed_form (plain.Path path) e = absurd cc
listed_form (plain.File file) e = absurd cc
listed_form (plain.Directory path) e = absurd cc
listed_form (plain.Relative atoms) e = absurd cc
listed_form (plain.Atom text) e = absurd cc
listed_form (plain.Listed depth items) e = (depth, items, refl)
listed_form (plain.Object depth members) e = absurd cc
listed_form (plain.Function callee depth held) e = absurd cc
listed_form (plain.Static dir) e = absurd cc
listed_form (plain.Process pip) e = absurd cc
listed_form (plain.Artifact artifact) e = absurd cc
listed_form (plain.Argument argument) e = absurd cc

object_form : (x : Plain) → equality.is_object x ≡ true → (depth : ℕ) × (ms : Members) × (x ≡ plain.Object depth ms)
object_form plain.Undefined e = absurd cc
object_form (plain.Flag flag) e = absurd cc
object_form (plain.Number number) e = absurd cc
object_form (plain.Text text) e = absurd cc
object_form (plain.Path path) e = absurd cc
object_form (plain.File file) e = absurd cc
object_form (plain.Directory path) e = absurd cc
object_form (plain.Relative atoms) e = absurd cc
object_form (plain.Atom text) e = absurd cc
object_form (plain.Listed depth items) e = absurd cc
object_form (plain.Object depth members) e = (depth, members, refl)
object_form (plain.Function callee depth held) e = absurd cc
object_form (plain.Static dir) e = absurd cc
object_form (plain.Process pip) e = absurd cc
object_form (plain.Artifact artifact) e = absurd cc
object_form (plain.Argument argument) e = absurd cc

-- a value that is a list is of a type that can be one, and likewise of objects
pub list_possible : (x : Plain) (t : TypeData) → HasType x t → equality.is_list x ≡ true → can_be_list t ≡ true
unfolding IsOf
list_possible x t h e =
    let f = listed_form x e in
    let r = of_has x t h in
    let is : IsOf (plain.Listed f.0 f.1) r.0 = subst (λ y. IsOf y r.0) f.2 r.2 in
    among_any is_list (members_of t) r.0 r.1 (ap is_list is.1)

pub object_possible : (x : Plain) (t : TypeData) → HasType x t → equality.is_object x ≡ true → can_be_object t ≡ true
unfolding IsOf
object_possible x t h e =
    let f = object_form x e in
    let r = of_has x t h in
    let is : IsOf (plain.Object f.0 f.1) r.0 = subst (λ y. IsOf y r.0) f.2 r.2 in
    among_any is_object (members_of t) r.0 r.1 (ap is_object is.1)

pub no_function_has : (callee : Callee) (depth : ℕ) (held : Items) (t : TypeData) → HasType (plain.Function callee depth held) t → ⊥
unfolding IsOf
no_function_has callee depth held t h = (of_has (plain.Function callee depth held) t h).2

-- ## `===`

alike_lists : (a b c d : Bool) → ((a && b) || (c && d)) ≡ false → a ≡ true → b ≡ true → ⊥
alike_lists true true c d e p q = absurd cc
alike_lists true false c d e p q = absurd cc
alike_lists false b c d e p q = absurd cc

alike_objects : (a b c d : Bool) → ((a && b) || (c && d)) ≡ false → c ≡ true → d ≡ true → ⊥
alike_objects true true c d e p q = absurd cc
alike_objects true false true true e p q = absurd cc
alike_objects true false true false e p q = absurd cc
alike_objects true false false d e p q = absurd cc
alike_objects false b true true e p q = absurd cc
alike_objects false b true false e p q = absurd cc
alike_objects false b false d e p q = absurd cc

answered_unless : (b : Bool) → (b ≡ true → ⊥) → (same : Bool) × (unanswered b ≡ Some same)
answered_unless true never = absurd (never refl)
answered_unless false never = (false, refl)

-- two values that cannot be two lists or two objects are equal or not
pub equal_answers
    : (x y : Plain) (t u : TypeData) → may_be_alike t u ≡ false → HasType x t → HasType y u
    → (same : Bool) × (equal_of x y ≡ Some same)
equal_answers plain.Undefined y t u e h g = (equality.is_undefined y, refl)
equal_answers (plain.Flag flag) y t u e h g = (equality.is_flag flag y, refl)
equal_answers (plain.Number number) y t u e h g = (equality.is_number number y, refl)
equal_answers (plain.Text text) y t u e h g = (equality.is_text text y, refl)
equal_answers (plain.Path path) y t u e h g = (equality.is_path path y, refl)
equal_answers (plain.File file) y t u e h g = (equality.is_file file y, refl)
equal_answers (plain.Directory path) y t u e h g = (equality.is_directory path y, refl)
equal_answers (plain.Relative atoms) y t u e h g = (equality.is_relative atoms y, refl)
equal_answers (plain.Atom text) y t u e h g = (equality.equals_atom text y, refl)
equal_answers (plain.Listed depth items) y t u e h g =
    answered_unless (equality.is_list y) (λ is. alike_lists (can_be_list t) (can_be_list u) (can_be_object t) (can_be_object u) e
    (list_possible (plain.Listed depth items) t h refl) (list_possible y u g is))
equal_answers (plain.Object depth members) y t u e h g =
    answered_unless (equality.is_object y) (λ is. alike_objects (can_be_list t) (can_be_list u) (can_be_object t) (can_be_object u) e
    (object_possible (plain.Object depth members) t h refl) (object_possible y u g is))
equal_answers (plain.Function callee depth held) y t u e h g = absurd (no_function_has callee depth held t h)
equal_answers (plain.Static dir) y t u e h g = (equality.is_static dir y, refl)
equal_answers (plain.Process pip) y t u e h g = (equality.is_process pip y, refl)
equal_answers (plain.Artifact artifact) y t u e h g = (equality.is_artifact artifact y, refl)
equal_answers (plain.Argument argument) y t u e h g = (equality.is_argument argument y, refl)

pub flag_has : (flag : Bool) → HasType (plain.Flag flag) boolean_type
flag_has flag = kind_has kinds.Boolean (plain.Flag flag) (flag, refl)
