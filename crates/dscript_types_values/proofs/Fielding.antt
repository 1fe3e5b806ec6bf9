-- Fields of values against fields of types.
use Rattle.std.proofs.Common.{◌≡◌, ℕ, Bool, true, false, cond, not, ◌⊎◌, List, [], ◌∷◌, ◌++◌, Option, Some, None, refl, sym, ap}
use Rattle.std.proofs.Common.{◌∙◌, subst, inl, inr}
use Rattle.std.specs.BTreeSet.{replace_key}
use Rattle.std.specs.Cmp.Lexicographic.{slice_cmp}
use Rattle.std.specs.Ordering.{match_ordering, nat_cmp, ordering_reverse}
use Rattle.std.specs.Str.{bytes_eq}
use Rattle.std.specs.declared.cmp.Ordering.{Ordering}
use Rattle.std.specs.declared.cmp.Ordering.TheVariants.{Less, Equal, Greater}
use Rattle.std.proofs.lemmas.Cmp.{nat_list_cmp_total}
use Rattle.std.proofs.lemmas.Map.Lookups.{exact_bytes}
use Rattle.std.proofs.lemmas.Slice.Eq.{bytes_eq-Decides}
use Rattle.dscript_value.specs.Depths.{field_at, put_field as put_value, put_fields as put_values}
use Rattle.dscript_value.specs.Plain as plain
use Rattle.dscript_value.specs.Plain.{Plain, PlainField, Members, Last, Next, member_list, to_members}
use Rattle.dscript_types_meaning.specs.Types.{TypeData, FieldData, FieldRow, Objects, field_list, members_of, no_fields}
use Rattle.dscript_types_meaning.specs.Types.{more_fields, object_type, to_fields}
use Rattle.dscript_types_meaning.specs.Codes.{field_cmp}
use Rattle.dscript_types_meaning.specs.Fits.{field_named, holds_of, requires}
use Rattle.dscript_types_meaning.specs.Objects.{put_field}
use Rattle.dscript_types_meaning.specs.Values.{AreFields, HasRequired, HasType, IsOf}
use Rattle.dscript_types_values.proofs.Among.{Among}
use Rattle.dscript_types_values.proofs.Joining.{has_of}
use Rattle.dscript_types_values.proofs.KindForms.{object_is}

-- ## Names

pub names_equal : (a b : List ℕ) → bytes_eq a b ≡ true → a ≡ b
names_equal a b e = (bytes_eq-Decides a b).0 e

pub same_name : (a : List ℕ) → bytes_eq a a ≡ true
same_name a = (bytes_eq-Decides a a).1 refl

differ_case : (a b : List ℕ) (t : Bool) → bytes_eq b a ≡ t → bytes_eq a b ≡ false → t ≡ false
differ_case a b true is e = absurd (let same : bytes_eq a b ≡ true = (bytes_eq-Decides a b).1 (sym (names_equal b a is)) in cc)
differ_case a b false is e = refl

pub names_differ : (a b : List ℕ) → bytes_eq a b ≡ false → bytes_eq b a ≡ false
names_differ a b e = differ_case a b (bytes_eq b a) refl e

level_case : (o : Ordering) → o ≡ ordering_reverse o → o ≡ Equal
level_case Less e = absurd cc
level_case Equal e = refl
level_case Greater e = absurd cc

pub names_level : (a : List ℕ) → slice_cmp nat_cmp a a ≡ Equal
names_level a = level_case (slice_cmp nat_cmp a a) (nat_list_cmp_total.antisymm a a)

-- ## Fields of types, after a further one

put_case
    : (f g : FieldData) (fs : List FieldData) (name : List ℕ) (o : Ordering) → field_cmp f g ≡ o
    → field_named (replace_key field_cmp fs f) name ≡ cond (bytes_eq f.name name) (Some f) (field_named fs name)
    → field_named (match_ordering o (f ∷ g ∷ fs) (f ∷ fs) (g ∷ replace_key field_cmp fs f)) name
    ≡ cond (bytes_eq f.name name) (Some f) (cond (bytes_eq g.name name) (Some g) (field_named fs name))
put_case f g fs name Less is more = refl
put_case f g fs name Equal is more =
    let same : f.name ≡ g.name = exact_bytes f.name g.name is in
    by_name (bytes_eq f.name name) (bytes_eq g.name name) (ap (λ n. bytes_eq n name) same)
  where
    by_name : (a b : Bool) → a ≡ b → cond a (Some f) (field_named fs name) ≡ cond a (Some f) (cond b (Some g) (field_named fs name))
    by_name true b e = refl
    by_name false true e = absurd cc
    by_name false false e = refl
put_case f g fs name Greater is more =
    by_name (bytes_eq f.name name) (bytes_eq g.name name) refl refl
  where
    by_name
        : (a b : Bool) → bytes_eq f.name name ≡ a → bytes_eq g.name name ≡ b
        → cond b (Some g) (field_named (replace_key field_cmp fs f) name) ≡ cond a (Some f) (cond b (Some g) (field_named fs name))
    by_name true true p q =
        let same : f.name ≡ g.name = names_equal f.name name p ∙ sym (names_equal g.name name q) in
        let equal : field_cmp f g ≡ Equal = ap (λ n. slice_cmp nat_cmp f.name n) (sym same) ∙ names_level f.name in
        absurd (let e : Equal ≡ Greater = sym equal ∙ is in cc)
    by_name true false p q = more ∙ ap (λ a. cond a (Some f) (field_named fs name)) p
    by_name false true p q = refl
    by_name false false p q = more ∙ ap (λ a. cond a (Some f) (field_named fs name)) p

-- a field is found by its name after it is put, and every other as before
pub named_put
    : (fs : List FieldData) (f : FieldData) (name : List ℕ)
    → field_named (put_field fs f) name ≡ cond (bytes_eq f.name name) (Some f) (field_named fs name)
named_put [] f name = refl
named_put (g ∷ fs) f name = put_case f g fs name (field_cmp f g) refl (named_put fs f name)

-- ## Fields of values, after a further one

value_case
    : (e f : PlainField) (es : List PlainField) (name : List ℕ) (b : Bool) → bytes_eq e.0 f.0 ≡ b
    → field_at (put_value es f) name ≡ cond (bytes_eq f.0 name) (Some f.1) (field_at es name)
    → field_at (cond b (f ∷ es) (e ∷ put_value es f)) name
    ≡ cond (bytes_eq f.0 name) (Some f.1) (cond (bytes_eq e.0 name) (Some e.1) (field_at es name))
value_case e f es name true is more =
    by_name (bytes_eq f.0 name) (bytes_eq e.0 name) (ap (λ n. bytes_eq n name) (sym (names_equal e.0 f.0 is)))
  where
    by_name : (a b : Bool) → a ≡ b → cond a (Some f.1) (field_at es name) ≡ cond a (Some f.1) (cond b (Some e.1) (field_at es name))
    by_name true b p = refl
    by_name false true p = absurd cc
    by_name false false p = refl
value_case e f es name false is more =
    by_name (bytes_eq f.0 name) (bytes_eq e.0 name) refl refl
  where
    by_name
        : (a b : Bool) → bytes_eq f.0 name ≡ a → bytes_eq e.0 name ≡ b
        → cond b (Some e.1) (field_at (put_value es f) name) ≡ cond a (Some f.1) (cond b (Some e.1) (field_at es name))
    by_name true true p q =
        absurd (let same : bytes_eq e.0 f.0 ≡ true = (bytes_eq-Decides e.0 f.0).1 (names_equal e.0 name q ∙ sym (names_equal f.0 name p)) in cc)
    by_name true false p q = more ∙ ap (λ a. cond a (Some f.1) (field_at es name)) p
    by_name false true p q = refl
    by_name false false p q = more ∙ ap (λ a. cond a (Some f.1) (field_at es name)) p

pub at_put
    : (es : List PlainField) (f : PlainField) (name : List ℕ)
    → field_at (put_value es f) name ≡ cond (bytes_eq f.0 name) (Some f.1) (field_at es name)
at_put [] f name = refl
at_put (e ∷ es) f name = value_case e f es name (bytes_eq e.0 f.0) refl (at_put es f name)

-- no two fields have one name
abbrev pub AreOnce : List PlainField → Type 0
AreOnce [] = Unit {0}
AreOnce (e ∷ es) = (field_at es e.0 ≡ None) × AreOnce es

once_case
    : (e f : PlainField) (es : List PlainField) (b : Bool) → bytes_eq e.0 f.0 ≡ b → field_at es e.0 ≡ None → AreOnce es
    → AreOnce (put_value es f) → AreOnce (cond b (f ∷ es) (e ∷ put_value es f))
once_case e f es true is none once more = (ap (field_at es) (sym (names_equal e.0 f.0 is)) ∙ none, once)
once_case e f es false is none once more =
    (at_put es f e.0 ∙ ap (λ b. cond b (Some f.1) (field_at es e.0)) (names_differ e.0 f.0 is) ∙ none, more)

pub put_once : (es : List PlainField) (f : PlainField) → AreOnce es → AreOnce (put_value es f)
put_once [] f once = (refl, tt)
put_once (e ∷ es) f once = once_case e f es (bytes_eq e.0 f.0) refl once.0 once.1 (put_once es f once.1)

pub all_once : (es fs : List PlainField) → AreOnce es → AreOnce (put_values es fs)
all_once es [] once = once
all_once es (f ∷ fs) once = all_once (put_value es f) fs (put_once es f once)

pub put_append : (es fs gs : List PlainField) → put_values es (fs ++ gs) ≡ put_values (put_values es fs) gs
put_append es [] gs = refl
put_append es (f ∷ fs) gs = put_append (put_value es f) fs gs

-- ## Fields that are of types

-- each field of the values is one of the types', and those that are required are there
pub record Holds (es : List PlainField) (fs : List FieldData) : Type 0 where
  pub typed : (name : List ℕ) (x : Plain) → field_at es name ≡ Some x
      → (f : FieldData) × (field_named fs name ≡ Some f) × HasType x f.type_data
  pub required : (name : List ℕ) → requires fs name ≡ true → (x : Plain) × (field_at es name ≡ Some x)

pub holds_none : Holds [] []
holds_none = record { typed = λ name x e. absurd cc; required = λ name e. absurd cc }

-- a field of a type takes the place of one of its name in both
pub holds_put
    : (es : List PlainField) (fs : List FieldData) (name : List ℕ) (x : Plain) (f : FieldData) → f.name ≡ name
    → HasType x f.type_data → Holds es fs → Holds (put_value es (name, x)) (put_field fs f)
holds_put es fs name x f is h holds = record {
  typed = λ other y e. typed_by other y (bytes_eq name other) refl (sym (at_put es (name, x) other) ∙ e);
  required = λ other e. required_by other (bytes_eq name other) refl
      (sym (ap (holds_of (λ (g : FieldData). not g.optional)) (named_put fs f other)) ∙ e);
}
  where
    named : (other : List ℕ) (b : Bool) → bytes_eq name other ≡ b
        → field_named (put_field fs f) other ≡ cond b (Some f) (field_named fs other)
    named other b e =
        named_put fs f other ∙ ap (λ n. cond (bytes_eq n other) (Some f) (field_named fs other)) is
        ∙ ap (λ a. cond a (Some f) (field_named fs other)) e

    typed_by
        : (other : List ℕ) (y : Plain) (b : Bool) → bytes_eq name other ≡ b
        → cond (bytes_eq name other) (Some x) (field_at es other) ≡ Some y
        → (g : FieldData) × (field_named (put_field fs f) other ≡ Some g) × HasType y g.type_data
    typed_by other y true b e =
        let here : Some x ≡ Some y = ap (λ a. cond a (Some x) (field_at es other)) (sym b) ∙ e in
        let same : x ≡ y = cc in (f, named other true b, subst (λ z. HasType z f.type_data) same h)
    typed_by other y false b e =
        let r = holds.typed other y (ap (λ a. cond a (Some x) (field_at es other)) (sym b) ∙ e) in
        (r.0, named other false b ∙ r.1, r.2)

    required_by
        : (other : List ℕ) (b : Bool) → bytes_eq name other ≡ b
        → holds_of (λ (g : FieldData). not g.optional) (cond (bytes_eq f.name other) (Some f) (field_named fs other)) ≡ true
        → (y : Plain) × (field_at (put_value es (name, x)) other ≡ Some y)
    required_by other true b e =
        (x, at_put es (name, x) other ∙ ap (λ a. cond a (Some x) (field_at es other)) b)
    required_by other false b e =
        let r = holds.required other
        (sym (ap (λ a. holds_of (λ (g : FieldData). not g.optional) (cond a (Some f) (field_named fs other)))
        (ap (λ n. bytes_eq n other) is ∙ b)) ∙ e) in
        (r.0, at_put es (name, x) other ∙ ap (λ a. cond a (Some x) (field_at es other)) b ∙ r.1)

-- ## Objects

fields_again : (fs : List FieldData) → field_list (to_fields fs) ≡ fs
fields_again [] = refl
fields_again (f ∷ fs) = ap (λ gs. f ∷ gs) (fields_again fs)

members_again : (es : List PlainField) → member_list (to_members es) ≡ es
members_again [] = refl
members_again (e ∷ es) = ap (λ ds. e ∷ ds) (members_again es)

first_case
    : (e d : PlainField) (es : List PlainField) (b : Bool) → bytes_eq e.0 d.0 ≡ b → field_at es e.0 ≡ None
    → field_at es d.0 ≡ Some d.1 → cond b (Some e.1) (field_at es d.0) ≡ Some d.1
first_case e d es true is none more =
    absurd (let same : field_at es e.0 ≡ Some d.1 = ap (field_at es) (names_equal e.0 d.0 is) ∙ more in cc)
first_case e d es false is none more = more

-- each field is the one that is found by its name
pub at_itself : (es : List PlainField) (d : PlainField) → AreOnce es → Among es d → field_at es d.0 ≡ Some d.1
at_itself [] d once a = absurd a
at_itself (e ∷ es) d once (inl is) =
    ap (λ b. cond b (Some e.1) (field_at es d.0)) (ap (λ c. bytes_eq e.0 c.0) (sym is) ∙ same_name e.0) ∙ ap (λ c. Some c.1) is
at_itself (e ∷ es) d once (inr a) =
    first_case e d es (bytes_eq e.0 d.0) refl once.0 (at_itself es d once.1 a)

are_fields
    : (es all : List PlainField) (fs : List FieldData)
    → ((d : PlainField) → Among es d → field_at all d.0 ≡ Some d.1) → Holds all fs
    → AreFields (to_members es) fs
unfolding AreFields HasType
are_fields [] all fs found holds = tt
are_fields (e ∷ es) all fs found holds =
    let r = holds.typed e.0 e.1 (found e (inl refl)) in
    ((r.0, r.1, r.2.0, r.2.1, r.2.2), are_fields es all fs (λ d a. found d (inr a)) holds)

-- an object of fields that hold values of their types
pub object_has
    : (depth : ℕ) (es : List PlainField) (fs : List FieldData) → AreOnce es → Holds es fs
    → HasType (plain.Object depth (to_members es)) (object_type fs)
unfolding IsOf
object_has depth es fs once holds =
    let same = fields_again fs in
    has_of (plain.Object depth (to_members es)) (object_type fs) (
      Objects (to_fields fs),
      inl refl,
      (
        to_fields fs,
        refl,
        subst (λ gs. AreFields (to_members es) gs) (sym same) (are_fields es es fs (λ d a. at_itself es d once a) holds),
        λ name is. let r = holds.required name (subst (λ gs. requires gs name ≡ true) same is) in
            (r.0, ap (λ ds. field_at ds name) (members_again es) ∙ r.1),
      ),
    )

-- ## Values of object types

typed_case
    : (name other : List ℕ) (x y : Plain) (more : Members) (fs : List FieldData) (b : Bool) → bytes_eq name other ≡ b
    → ((f : FieldData) × (field_named fs name ≡ Some f) × HasType x f.type_data)
    → (field_at (member_list more) other ≡ Some y → (f : FieldData) × (field_named fs other ≡ Some f) × HasType y f.type_data)
    → cond b (Some x) (field_at (member_list more) other) ≡ Some y
    → (f : FieldData) × (field_named fs other ≡ Some f) × HasType y f.type_data
typed_case name other x y more fs true is here rest e =
    let same : x ≡ y = cc in
    (here.0, ap (field_named fs) (sym (names_equal name other is)) ∙ here.1, subst (λ z. HasType z here.0.type_data) same here.2)
typed_case name other x y more fs false is here rest e = rest e

fields_typed
    : (ms : Members) (fs : List FieldData) (other : List ℕ) (y : Plain) → AreFields ms fs
    → field_at (member_list ms) other ≡ Some y → (f : FieldData) × (field_named fs other ≡ Some f) × HasType y f.type_data
unfolding AreFields HasType
fields_typed Last fs other y h e = absurd cc
fields_typed (Next name x more) fs other y h e =
    typed_case name other x y more fs (bytes_eq name other) refl (h.0.0, h.0.1, (h.0.2, h.0.3, h.0.4))
    (fields_typed more fs other y h.1) e

-- an object of an object type
pub objects_hold
    : (x : Plain) (fields : FieldRow) → IsOf x (Objects fields)
    → (depth : ℕ) × (ms : Members) × (x ≡ plain.Object depth ms) × Holds (member_list ms) (field_list fields)
objects_hold x fields h =
    let r = object_is x fields h in (
      r.0,
      r.1,
      r.2,
      record {
        typed = λ name y e. fields_typed r.1 (field_list fields) name y r.3 e;
        required = λ name e. r.4 name e;
      },
    )
