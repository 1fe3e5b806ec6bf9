-- What ambient calls read of arguments of the types that they take.
use Rattle.std.proofs.Common.{◌≡◌, ℕ, Bool, true, false, cond, ◌&&◌, ◌⊎◌, List, [], ◌∷◌, Option, Some, None, Ok, Err, refl, sym, ap, ◌∙◌, subst, inl, inr}
use Rattle.std.specs.List.{AllByRecursion, AllZip}
use Rattle.std.specs.Option.{option_map}
use Rattle.std.specs.Prelude.{unwrap_or}
use Rattle.dscript_value.specs.Depths.{field_at}
use Rattle.dscript_value.specs.Plain as plain
use Rattle.dscript_value.specs.Plain.{Plain, PlainField, Items, item_list, member_list}
use Rattle.dscript_sdk_values.specs.declared.fault.SdkFault.TheVariants.{BadArgument}
use Rattle.dscript_sdk_values.specs.Arguments.{one_of, two_of}
use Rattle.dscript_sdk_values.specs.Kinds.{argument_in, directory_in, each_in, file_in, flag_in, list_in, path_in, text_in}
use Rattle.dscript_sdk_values.specs.Objects.{field_in, fields_in, has_all, has_only, optional_in, optional_list_in, read_if_there}
use Rattle.dscript_sdk_values.specs.Outcomes.{Outcome, ◌>>=◌, unless_none}
use Rattle.dscript_types_meaning.specs.declared.kind.Kind.TheVariants as kinds
use Rattle.dscript_types_meaning.specs.Types.{TypeData, MemberData, FieldData, Lists, Objects, field_list, kind_type, list_type, object_type}
use Rattle.dscript_types_meaning.specs.Types.{to_fields}
use Rattle.dscript_types_meaning.specs.Fits.{field_named, fits}
use Rattle.dscript_types_meaning.specs.Operators.{boolean_type, text_type}
use Rattle.dscript_types_meaning.specs.Access.{arguments_fit}
use Rattle.dscript_types_meaning.specs.Ambients.{directory_type, file_type, path_type}
use Rattle.dscript_types_meaning.specs.Values.{HasType, IsOf}
use Rattle.dscript_types_values.proofs.Fielding.{Holds, objects_hold}
use Rattle.dscript_types_values.proofs.Fitting.{fits_has, has_kind}
use Rattle.dscript_types_values.proofs.Joining.{of_has}
use Rattle.dscript_types_values.proofs.KindForms.{items_are, list_is}
use Rattle.dscript_types_laws.specs.Invariants.{Answers}
use Rattle.dscript_types_laws.proofs.Holes.{Reads}

-- ## One thing after another

pub then_answers
    : (A B : Type 0) (Is : A → Type 0) (Js : B → Type 0) (o : Outcome A) (f : A → Outcome B) → Answers A Is o
    → ((x : A) → Is x → Answers B Js (f x)) → Answers B Js (o >>= f)
then_answers A B Is Js (Ok x) f h more = more x h
then_answers A B Is Js (Err fault) f h more = h

module _ {A B : Type 0} where
  pub then_reads : (o : Outcome A) (f : A → Outcome B) → Reads o → ((x : A) → Reads (f x)) → Reads (o >>= f)
  then_reads (Ok x) f h more = more x
  then_reads (Err fault) f h more = h

-- ## Arguments

fit_case
    : (t g : TypeData) (takes given : List TypeData) (b : Bool) → fits g t ≡ b
    → elim b [
      | true ↦ arguments_fit takes given
      | false ↦ false
    ] ≡ true
    → (fits g t ≡ true) × (arguments_fit takes given ≡ true)
fit_case t g takes given true is e = (is, e)
fit_case t g takes given false is e = absurd cc

pub first_fit
    : (t g : TypeData) (takes given : List TypeData) → arguments_fit (t ∷ takes) (g ∷ given) ≡ true
    → (fits g t ≡ true) × (arguments_fit takes given ≡ true)
first_fit t g takes given e = fit_case t g takes given (fits g t) refl e

module _ (A : Type 0) (Is : A → Type 0) where
  pub one_answers
      : (t : TypeData) (args : List Plain) (given : List TypeData) (f : Plain → Outcome A)
      → arguments_fit (t ∷ []) given ≡ true → AllZip HasType args given
      → ((x : Plain) → HasType x t → Answers A Is (f x)) → Answers A Is (one_of args >>= f)
  one_answers t [] given f fit zip more = tt
  one_answers t (x ∷ args) [] f fit zip more = absurd zip
  one_answers t (x ∷ args) (g ∷ given) f fit zip more =
      more x (fits_has x g t (first_fit t g [] given fit).0 zip.0)

  pub two_answers
      : (t u : TypeData) (args : List Plain) (given : List TypeData) (f : Plain × Plain → Outcome A)
      → arguments_fit (t ∷ u ∷ []) given ≡ true → AllZip HasType args given
      → ((x y : Plain) → HasType x t → HasType y u → Answers A Is (f (x, y))) → Answers A Is (two_of args >>= f)
  two_answers t u [] given f fit zip more = tt
  two_answers t u (x ∷ []) given f fit zip more = tt
  two_answers t u (x ∷ y ∷ args) [] f fit zip more = absurd zip
  two_answers t u (x ∷ y ∷ args) (g ∷ []) f fit zip more = absurd zip.1
  two_answers t u (x ∷ y ∷ args) (g ∷ k ∷ given) f fit zip more =
      let one = first_fit t g (u ∷ []) (k ∷ given) fit in
      more x y (fits_has x g t one.0 zip.0) (fits_has y k u (first_fit u k [] given one.1).0 zip.1.0)

-- ## Values of a kind

pub text_read : (x : Plain) → HasType x text_type → Reads (text_in x)
text_read x h = let v = has_kind x kinds.String h in subst (λ y. Reads (text_in y)) (sym v.1) tt

pub flag_read : (x : Plain) → HasType x boolean_type → Reads (flag_in x)
flag_read x h = let v = has_kind x kinds.Boolean h in subst (λ y. Reads (flag_in y)) (sym v.1) tt

pub path_read : (x : Plain) → HasType x path_type → Reads (path_in x)
path_read x h = let v = has_kind x kinds.Path h in subst (λ y. Reads (path_in y)) (sym v.1) tt

pub file_read : (x : Plain) → HasType x file_type → Reads (file_in x)
file_read x h = let v = has_kind x kinds.File h in subst (λ y. Reads (file_in y)) (sym v.1) tt

pub directory_read : (x : Plain) → HasType x directory_type → Reads (directory_in x)
directory_read x h = let v = has_kind x kinds.Directory h in subst (λ y. Reads (directory_in y)) (sym v.1) tt

pub argument_read : (x : Plain) → HasType x (kind_type kinds.Argument) → Reads (argument_in x)
argument_read x h = let v = has_kind x kinds.Argument h in subst (λ y. Reads (argument_in y)) (sym v.1) tt

-- ## Lists

-- the value is a list of items of this type
pub list_of
    : (x : Plain) (item : TypeData) → HasType x (list_type item)
    → (depth : ℕ) × (xs : Items) × (x ≡ plain.Listed depth xs) × AllByRecursion (λ y. HasType y item) (item_list xs)
list_of x item h = onward (of_has x (list_type item) h)
  where
    onward
        : (m : MemberData) × ((Lists item ≡ m) ⊎ ⊥) × IsOf x m
        → (depth : ℕ) × (xs : Items) × (x ≡ plain.Listed depth xs) × AllByRecursion (λ y. HasType y item) (item_list xs)
    onward (m, inl is, h) =
        let l = list_is x item (subst (λ n. IsOf x n) (sym is) h) in (l.0, l.1, l.2, items_are l.1 item l.3)
    onward (m, inr none, h) = absurd none

module _ {A : Type 0} (item : TypeData) (read : Plain → Outcome A) (reads : (x : Plain) → HasType x item → Reads (read x)) where
  each_read : (xs : List Plain) → AllByRecursion (λ y. HasType y item) xs → Reads (each_in read xs)
  each_read [] h = tt
  each_read (x ∷ xs) h =
      then_reads (read x) _ (reads x h.0) (λ y. then_reads (each_in read xs) _ (each_read xs h.1) (λ ys. tt))

  pub list_read : (x : Plain) → HasType x (list_type item) → Reads (list_in read x)
  list_read x h =
      let l = list_of x item h in
      subst (λ y. Reads (list_in read y)) (sym l.2) (each_read (item_list l.1) l.3)

-- ## Objects

fields_again : (fs : List FieldData) → field_list (to_fields fs) ≡ fs
fields_again [] = refl
fields_again (f ∷ fs) = ap (λ gs. f ∷ gs) (fields_again fs)

-- the value is an object with these fields
pub object_of_fields
    : (x : Plain) (fs : List FieldData) → HasType x (object_type fs)
    → (depth : ℕ) × (ms : plain.Members) × (x ≡ plain.Object depth ms) × Holds (member_list ms) fs
object_of_fields x fs h = onward (of_has x (object_type fs) h)
  where
    onward
        : (m : MemberData) × ((Objects (to_fields fs) ≡ m) ⊎ ⊥) × IsOf x m
        → (depth : ℕ) × (ms : plain.Members) × (x ≡ plain.Object depth ms) × Holds (member_list ms) fs
    onward (m, inl is, h) =
        let o = objects_hold x (to_fields fs) (subst (λ n. IsOf x n) (sym is) h) in
        (o.0, o.1, o.2, subst (λ gs. Holds (member_list o.1) gs) (fields_again fs) o.3)
    onward (m, inr none, h) = absurd none

-- what a name holds, where it is there, is of this type
abbrev pub IsAt : List PlainField → List ℕ → TypeData → Type 0
IsAt es name t = (y : Plain) → field_at es name ≡ Some y → HasType y t

-- the type of a field
abbrev pub type_at : List FieldData → List ℕ → Option TypeData
type_at fs name = option_map (λ (f : FieldData). f.type_data) (field_named fs name)

pub is_at
    : (es : List PlainField) (fs : List FieldData) (name : List ℕ) (t : TypeData) → Holds es fs → type_at fs name ≡ Some t
    → IsAt es name t
is_at es fs name t holds e y at =
    let f = holds.typed name y at in
    let same : Some f.0.type_data ≡ Some t = ap (option_map (λ (g : FieldData). g.type_data)) (sym f.1) ∙ e in
    let is : f.0.type_data ≡ t = cc in subst (λ u. HasType y u) is f.2

module _ {A : Type 0} where
  only_case
      : (es : List PlainField) (f : List PlainField → Outcome A) (b : Bool) → Reads (f es)
      → Reads (cond b (Ok es) (Err BadArgument) >>= f)
  only_case es f true h = h
  only_case es f false h = tt

  -- the fields of an object, and what follows on them
  pub fields_read
      : (required optional : List (List ℕ)) (f : List PlainField → Outcome A) (depth : ℕ) (ms : plain.Members)
      → Reads (f (member_list ms)) → Reads (fields_in required optional (plain.Object depth ms) >>= f)
  fields_read required optional f depth ms h =
      only_case (member_list ms) f (has_only required optional (member_list ms) && has_all required (member_list ms)) h

  pub object_read
      : (required optional : List (List ℕ)) (f : List PlainField → Outcome A) (x : Plain) (fs : List FieldData)
      → HasType x (object_type fs) → ((es : List PlainField) → Holds es fs → Reads (f es))
      → Reads (fields_in required optional x >>= f)
  object_read required optional f x fs h more =
      let o = object_of_fields x fs h in
      subst (λ y. Reads (fields_in required optional y >>= f)) (sym o.2)
      (fields_read required optional f o.0 o.1 (more (member_list o.1) o.3))

  there_case
      : (o : Option Plain) (t : TypeData) (read : Plain → Outcome A) → ((y : Plain) → o ≡ Some y → HasType y t)
      → ((y : Plain) → HasType y t → Reads (read y)) → Reads (unless_none BadArgument o >>= read)
  there_case None t read at reads = tt
  there_case (Some y) t read at reads = reads y (at y refl)

  pub field_read
      : (es : List PlainField) (name : List ℕ) (t : TypeData) (read : Plain → Outcome A) → IsAt es name t
      → ((y : Plain) → HasType y t → Reads (read y)) → Reads (field_in es name read)
  field_read es name t read at reads = there_case (field_at es name) t read at reads

  if_there_case
      : (o : Option Plain) (t : TypeData) (read : Plain → Outcome A) → ((y : Plain) → o ≡ Some y → HasType y t)
      → ((y : Plain) → HasType y t → Reads (read y)) → Reads (read_if_there read o)
  if_there_case None t read at reads = tt
  if_there_case (Some y) t read at reads = then_reads (read y) _ (reads y (at y refl)) (λ z. tt)

  pub optional_read
      : (es : List PlainField) (name : List ℕ) (t : TypeData) (read : Plain → Outcome A) → IsAt es name t
      → ((y : Plain) → HasType y t → Reads (read y)) → Reads (optional_in es name read)
  optional_read es name t read at reads = if_there_case (field_at es name) t read at reads

pub optional_list_read
    : {A : Type 0} (es : List PlainField) (name : List ℕ) (t : TypeData) (read : Plain → Outcome (List A)) → IsAt es name t
    → ((y : Plain) → HasType y t → Reads (read y)) → Reads (optional_list_in es name read)
optional_list_read es name t read at reads =
    then_reads (optional_in es name read) (λ items. Ok (unwrap_or items [])) (optional_read es name t read at reads) (λ items. tt)
