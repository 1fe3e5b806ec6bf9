-- Indices of values of the types that they are taken of.
use Rattle.std.proofs.Common.{◌≡◌, ℕ, zero, suc, ℤ, pos, negsuc, Bool, true, false, cond, List, [], ◌∷◌, map, Option, Some, None}
use Rattle.std.proofs.Common.{refl, sym, subst}
use Rattle.std.specs.List.{AllByRecursion, slice_get}
use Rattle.std.specs.Option.{option_and_then}
use Rattle.std.specs.Prelude.{unwrap_or}
use Rattle.dscript_value.specs.Depths.{field_at}
use Rattle.dscript_value.specs.Plain as plain
use Rattle.dscript_value.specs.Plain.{Plain, PlainField, item_list, member_list}
use Rattle.dscript_sdk_values.specs.declared.fault.SdkFault.TheVariants.{Range}
use Rattle.dscript_sdk_values.specs.Outcomes.{unless_none}
use Rattle.dscript_eval_operators.specs.Indexing.{indexed as indexed_value, item_at}
use Rattle.dscript_types_meaning.specs.declared.kind.Kind.TheVariants as kinds
use Rattle.dscript_types_meaning.specs.Types.{TypeData, MemberData, FieldData, FieldRow, Values, Lists, Objects, field_list, members_of}
use Rattle.dscript_types_meaning.specs.Sizes.{within_limit}
use Rattle.dscript_types_meaning.specs.Unions.{join_all}
use Rattle.dscript_types_meaning.specs.Fits.{fits}
use Rattle.dscript_types_meaning.specs.Operators.{at_each, number_type, text_type}
use Rattle.dscript_types_meaning.specs.Access.{any_field, at_index, indexed}
use Rattle.dscript_types_meaning.specs.Values.{HasType, IsOf}
use Rattle.dscript_types_values.proofs.Among.{Among, among_map}
use Rattle.dscript_types_values.proofs.Fielding.{Holds, objects_hold}
use Rattle.dscript_types_values.proofs.Fitting.{fits_kind}
use Rattle.dscript_types_values.proofs.Joining.{has_one_of, has_undefined, has_with_undefined, of_has}
use Rattle.dscript_types_values.proofs.KindForms.{items_are, list_is}
use Rattle.dscript_types_laws.proofs.Operating.{AnswersOf, answers_as, answers_wider, at_each_has}
use Rattle.dscript_types_laws.proofs.Operators.{within_is}
use Rattle.dscript_types_laws.proofs.Spreading.{named_among}

-- ## Lists at numbers

some_has : (item : TypeData) (o : Option Plain) → ((x : Plain) → o ≡ Some x → HasType x item) → AnswersOf item (unless_none Range o)
some_has item None h = tt
some_has item (Some x) h = h x refl

item_has
    : (items : List Plain) (item : TypeData) (n : ℕ) (x : Plain) → AllByRecursion (λ y. HasType y item) items
    → slice_get items n ≡ Some x → HasType x item
item_has [] item n x all e = absurd cc
item_has (y ∷ ys) item zero x all e = let same : y ≡ x = cc in subst (λ z. HasType z item) same all.0
item_has (y ∷ ys) item (suc n) x all e = item_has ys item n x all.1 e

place_has
    : (items : List Plain) (item : TypeData) (n : ℤ) → AllByRecursion (λ y. HasType y item) items → AnswersOf item (item_at items n)
place_has items item (pos n) all = some_has item (slice_get items n) (λ x e. item_has items item n x all e)
place_has items item (negsuc n) all = tt

list_case
    : (item u r : TypeData) (x i : Plain) (b : Bool) → fits u number_type ≡ b → cond b (Some item) None ≡ Some r
    → IsOf x (Lists item) → HasType i u → AnswersOf r (indexed_value x i)
unfolding indexed_value
list_case item u r x i false is e h g = absurd cc
list_case item u r x i true is e h g =
    let same : item ≡ r = cc in
    let l = list_is x item h in
    let n = fits_kind i u kinds.Number is g in
    subst (λ y. AnswersOf r (indexed_value y i)) (sym l.2)
    (subst (λ j. AnswersOf r (indexed_value (plain.Listed l.0 l.1) j)) (sym n.1)
    (answers_as item r (item_at (item_list l.1) n.0) same (place_has (item_list l.1) item n.0 (items_are l.1 item l.3))))

-- ## Objects at texts

any_has : (fields : FieldRow) (f : FieldData) (x : Plain) → Among (field_list fields) f → HasType x f.type_data → HasType x (any_field fields)
any_has fields f x a h =
    has_with_undefined x (join_all (map (λ (g : FieldData). g.type_data) (field_list fields)))
    (has_one_of x (map (λ (g : FieldData). g.type_data) (field_list fields)) f.type_data
    (among_map (λ (g : FieldData). g.type_data) (field_list fields) f a) h)

name_case
    : (es : List PlainField) (fields : FieldRow) (name : List ℕ) (o : Option Plain) → Holds es (field_list fields)
    → field_at es name ≡ o → HasType (unwrap_or o plain.Undefined) (any_field fields)
name_case es fields name None holds at = has_undefined (join_all (map (λ (g : FieldData). g.type_data) (field_list fields)))
name_case es fields name (Some x) holds at =
    let f = holds.typed name x at in
    any_has fields f.0 x (named_among (field_list fields) name f.0 f.1).0 f.2

object_case
    : (fields : FieldRow) (u r : TypeData) (x i : Plain) (b : Bool) → fits u text_type ≡ b
    → cond b (Some (any_field fields)) None ≡ Some r → IsOf x (Objects fields) → HasType i u → AnswersOf r (indexed_value x i)
unfolding indexed_value
object_case fields u r x i false is e h g = absurd cc
object_case fields u r x i true is e h g =
    let same : any_field fields ≡ r = cc in
    let o = objects_hold x fields h in
    let n = fits_kind i u kinds.String is g in
    subst (λ y. AnswersOf r (indexed_value y i)) (sym o.2)
    (subst (λ j. AnswersOf r (indexed_value (plain.Object o.0 o.1) j)) (sym n.1)
    (subst (λ t. HasType (unwrap_or (field_at (member_list o.1) n.0) plain.Undefined) t) same
    (name_case (member_list o.1) fields n.0 (field_at (member_list o.1) n.0) o.3 refl)))

-- ## Both

member_has
    : (m : MemberData) (u r : TypeData) (x i : Plain) → at_index u m ≡ Some r → IsOf x m → HasType i u
    → AnswersOf r (indexed_value x i)
member_has (Values k) u r x i e h g = absurd cc
member_has (Lists item) u r x i e h g = list_case item u r x i (fits u number_type) refl e h g
member_has (Objects fields) u r x i e h g = object_case fields u r x i (fits u text_type) refl e h g

limit_case
    : (o : Option TypeData) (a : TypeData) → option_and_then within_limit o ≡ Some a → (s : TypeData) × (o ≡ Some s) × (s ≡ a)
limit_case None a e = absurd cc
limit_case (Some s) a e = (s, refl, within_is s a e)

-- what an index gives at values of types of which it is taken
pub indexed_has
    : (t u a : TypeData) (x i : Plain) → indexed t u ≡ Some a → HasType x t → HasType i u → AnswersOf a (indexed_value x i)
unfolding indexed
indexed_has t u a x i e h g =
    let r = of_has x t h in
    let c = limit_case (at_each (at_index u) (members_of t)) a e in
    let p = at_each_has (at_index u) (members_of t) c.0 r.0 c.1 r.1 in
    answers_wider p.0 a (indexed_value x i) (λ y k. subst (λ s. HasType y s) c.2 (p.2 y k)) (member_has r.0 u p.0 x i p.1 r.2 g)
