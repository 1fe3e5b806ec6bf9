-- Fields that are spread, in values and in types.
use Rattle.std.proofs.Common.{◌≡◌, ℕ, Bool, true, false, cond, not, ◌⊎◌, List, [], ◌∷◌, map, Option, Some, None, Ok}
use Rattle.std.proofs.Common.{refl, sym, ap, ◌∙◌, subst, inl, inr}
use Rattle.std.specs.List.{filter_map, flat_map, list_all}
use Rattle.std.specs.Option.{option_and_then, option_map}
use Rattle.std.specs.Str.{bytes_eq}
use Rattle.dscript_value.specs.Depths.{field_at, put_field as put_value, put_fields as put_values}
use Rattle.dscript_value.specs.Plain.{Plain, PlainField, Members, Last, Next, member_list}
use Rattle.dscript_eval_operators.specs.Spreads.{spread_fields as spread_values}
use Rattle.dscript_types_meaning.specs.declared.kind.Kind.TheVariants as kinds
use Rattle.dscript_types_meaning.specs.Types.{TypeData, MemberData, FieldData, Values, Lists, Objects, field_list, members_of}
use Rattle.dscript_types_meaning.specs.Sizes.{within_limit}
use Rattle.dscript_types_meaning.specs.Unions.{join}
use Rattle.dscript_types_meaning.specs.Fits.{field_named, holds_of, requires}
use Rattle.dscript_types_meaning.specs.Objects.{after_earlier, fields_in, joined, may_be_spread, names_in, put_field, spread_field}
use Rattle.dscript_types_meaning.specs.Objects.{spread_fields, type_of_field, write_field, write_fields}
use Rattle.dscript_types_meaning.specs.Values.{AreFields, HasType, IsOf}
use Rattle.dscript_types_values.proofs.Among.{Among, all_among, among_filter_map, among_flat, among_map}
use Rattle.dscript_types_values.proofs.Fielding.{Holds, at_put, named_put, names_equal, same_name}
use Rattle.dscript_types_values.proofs.Joining.{has_left, has_one_of, has_right, of_has}
use Rattle.dscript_types_values.proofs.KindForms.{kind_is, object_is}
use Rattle.dscript_types_laws.specs.Invariants.{Answers}
use Rattle.dscript_types_laws.proofs.Operators.{within_is}

-- ## A field of a type that is written after others

-- What is written of a field among those before it: at its name there is a field that takes its values; where it may
-- be missing, those of the earlier one too. It is required only where it or the earlier one is.
abbrev IsWritten : FieldData → Option FieldData → Option FieldData → Type 0
IsWritten g a b =
    (f : FieldData) × (b ≡ Some f) × ((y : Plain) → HasType y g.type_data → HasType y f.type_data)
    × (g.optional ≡ true → (e : FieldData) → a ≡ Some e → (y : Plain) → HasType y e.type_data → HasType y f.type_data)
    × (f.optional ≡ false → (g.optional ≡ false) ⊎ ((e : FieldData) × (a ≡ Some e) × (e.optional ≡ false)))

replaced : (g r : FieldData) (a : Option FieldData) → g ≡ r → ((g.optional ≡ true) → (e : FieldData) → a ≡ Some e → ⊥)
    → (r.name ≡ g.name) × IsWritten g a (Some r)
replaced g r a same none =
    subst (λ f. (f.name ≡ g.name) × IsWritten g a (Some f)) same
    (refl, (g, refl, λ y h. h, λ is e at y h. absurd (none is e at), λ is. inl is))

optional_case
    : (g r e : FieldData) (o : Option TypeData) → within_limit (join e.type_data g.type_data) ≡ o
    → option_map (λ t. record { name = g.name; optional = e.optional; type_data = t }) o ≡ Some r
    → (r.name ≡ g.name) × IsWritten g (Some e) (Some r)
optional_case g r e None is at = absurd cc
optional_case g r e (Some t) is at =
    let whole : join e.type_data g.type_data ≡ t = within_is (join e.type_data g.type_data) t is in
    let same : ◌≡◌ {A = FieldData} (record { name = g.name; optional = e.optional; type_data = t }) r = cc in
    subst (λ f. (f.name ≡ g.name) × IsWritten g (Some e) (Some f)) same (
      refl,
      (
        record { name = g.name; optional = e.optional; type_data = t },
        refl,
        λ y h. subst (λ u. HasType y u) whole (has_right y e.type_data g.type_data h),
        λ opt d there y h. subst (λ u. HasType y u) whole
            (has_left y e.type_data g.type_data (subst (λ (k : FieldData). HasType y k.type_data) (sym (same_field d there)) h)),
        λ required. inr (e, refl, required),
      ),
    )
  where
    same_field : (d : FieldData) → Some e ≡ Some d → e ≡ d
    same_field d there = cc

earlier_case
    : (g r e : FieldData) (b : Bool) → g.optional ≡ b → cond b (joined e g) (Some g) ≡ Some r
    → (r.name ≡ g.name) × IsWritten g (Some e) (Some r)
earlier_case g r e true is at =
    optional_case g r e (within_limit (join e.type_data g.type_data)) refl at
earlier_case g r e false is at =
    let same : g ≡ r = cc in replaced g r (Some e) same (λ other d there. let no : false ≡ true = sym is ∙ other in absurd cc)

after_written
    : (o : Option FieldData) (g r : FieldData) → after_earlier o g ≡ Some r → (r.name ≡ g.name) × IsWritten g o (Some r)
after_written None g r at =
    let same : g ≡ r = cc in replaced g r None same (λ is e there. let no : None ≡ Some e = there in absurd cc)
after_written (Some e) g r at = earlier_case g r e g.optional refl at

map_some : {X Y : Type 0} (h : X → Y) (o : Option X) (y : Y) → option_map h o ≡ Some y → (x : X) × (o ≡ Some x) × (h x ≡ y)
map_some h None y e = absurd cc
map_some h (Some x) y e = let same : h x ≡ y = cc in (x, refl, same)

-- a written field at its name, and all others as before
write_here
    : (done fs : List FieldData) (g : FieldData) (n : List ℕ) → write_field done g ≡ Some fs → bytes_eq g.name n ≡ true
    → IsWritten g (field_named done n) (field_named fs n)
write_here done fs g n e is =
    let m = map_some (put_field done) (after_earlier (field_named done g.name) g) fs e in
    let w = after_written (field_named done g.name) g m.0 m.1 in
    let name : g.name ≡ n = names_equal g.name n is in
    let found : field_named fs n ≡ Some m.0
    = ap (λ gs. field_named gs n) (sym m.2) ∙ named_put done m.0 n
    ∙ ap (λ b. cond b (Some m.0) (field_named done n)) (ap (λ k. bytes_eq k n) w.0 ∙ is) in
    subst (λ o. IsWritten g (field_named done n) o) (sym found)
    (subst (λ k. IsWritten g (field_named done k) (Some m.0)) name w.1)

write_there
    : (done fs : List FieldData) (g : FieldData) (n : List ℕ) → write_field done g ≡ Some fs → bytes_eq g.name n ≡ false
    → field_named fs n ≡ field_named done n
write_there done fs g n e is =
    let m = map_some (put_field done) (after_earlier (field_named done g.name) g) fs e in
    let w = after_written (field_named done g.name) g m.0 m.1 in
    ap (λ gs. field_named gs n) (sym m.2) ∙ named_put done m.0 n
    ∙ ap (λ b. cond b (Some m.0) (field_named done n)) (ap (λ k. bytes_eq k n) w.0 ∙ is)

-- ## Fields that are written one after another

then_written
    : (g : FieldData) (a b c : Option FieldData) → IsWritten g a b → IsWritten g b c → IsWritten g a c
then_written g a b c one other = (
  other.0,
  other.1,
  other.2,
  λ opt e there y h. other.3 opt one.0 one.1 y (one.3 opt e there y h),
  λ required. onward (other.4 required),
)
  where
    onward
        : (g.optional ≡ false) ⊎ ((e : FieldData) × (b ≡ Some e) × (e.optional ≡ false))
        → (g.optional ≡ false) ⊎ ((e : FieldData) × (a ≡ Some e) × (e.optional ≡ false))
    onward (inl is) = inl is
    onward (inr h) =
        let same : Some one.0 ≡ Some h.0 = sym one.1 ∙ h.1 in
        let field : one.0 ≡ h.0 = cc in
        one.4 (ap (λ (f : FieldData). f.optional) field ∙ h.2)

-- either the name is among those that are written, or nothing has changed there
abbrev AreWritten : (List ℕ → FieldData) → List (List ℕ) → List ℕ → Option FieldData → Option FieldData → Type 0
AreWritten make names n a b = IsWritten (make n) a b ⊎ (Among names n → ⊥) × (b ≡ a)

write_case
    : (make : List ℕ → FieldData) (k n : List ℕ) (names : List (List ℕ)) (done mid now : List FieldData) (b : Bool)
    → bytes_eq k n ≡ b → (make k).name ≡ k → write_field done (make k) ≡ Some mid
    → AreWritten make names n (field_named mid n) (field_named now n)
    → AreWritten make (k ∷ names) n (field_named done n) (field_named now n)
write_case make k n names done mid now true is name e rest =
    let same : k ≡ n = names_equal k n is in
    let first : IsWritten (make n) (field_named done n) (field_named mid n)
    = subst (λ j. IsWritten (make j) (field_named done n) (field_named mid n)) same
    (write_here done mid (make k) n e (ap (λ j. bytes_eq j n) name ∙ is)) in
    onward first rest
  where
    onward
        : IsWritten (make n) (field_named done n) (field_named mid n)
        → AreWritten make names n (field_named mid n) (field_named now n)
        → AreWritten make (k ∷ names) n (field_named done n) (field_named now n)
    onward first (inl w) =
        inl (then_written (make n) (field_named done n) (field_named mid n) (field_named now n) first w)
    onward first (inr h) = inl (subst (λ o. IsWritten (make n) (field_named done n) o) (sym h.1) first)
write_case make k n names done mid now false is name e rest =
    onward (write_there done mid (make k) n e (ap (λ j. bytes_eq j n) name ∙ is)) rest
  where
    other : Among (k ∷ names) n → (Among names n → ⊥) → ⊥
    other (inl same) more = let no : true ≡ false = sym (same_name n) ∙ ap (λ j. bytes_eq j n) (sym same) ∙ is in absurd cc
    other (inr a) more = more a

    onward
        : field_named mid n ≡ field_named done n → AreWritten make names n (field_named mid n) (field_named now n)
        → AreWritten make (k ∷ names) n (field_named done n) (field_named now n)
    onward same (inl w) = inl (subst (λ o. IsWritten (make n) o (field_named now n)) same w)
    onward same (inr h) = inr (λ a. other a h.0, h.1 ∙ same)

next_fields
    : (o : Option (List FieldData)) (gs : List FieldData) (now : List FieldData)
    → option_and_then (λ fields. write_fields fields gs) o ≡ Some now
    → (mid : List FieldData) × (o ≡ Some mid) × (write_fields mid gs ≡ Some now)
next_fields None gs now e = absurd cc
next_fields (Some mid) gs now e = (mid, refl, e)

all_written
    : (make : List ℕ → FieldData) (names : List (List ℕ)) (done now : List FieldData) (n : List ℕ)
    → ((k : List ℕ) → (make k).name ≡ k) → write_fields done (map make names) ≡ Some now
    → AreWritten make names n (field_named done n) (field_named now n)
all_written make [] done now n named e =
    let same : done ≡ now = cc in inr (λ a. a, ap (λ fs. field_named fs n) (sym same))
all_written make (k ∷ names) done now n named e =
    let m = next_fields (write_field done (make k)) (map make names) now e in
    write_case make k n names done m.0 now (bytes_eq k n) refl (named k) m.1
    (all_written make names m.0 now n named m.2)

-- ## Fields of values that are put one after another

-- A name has the value of one of these fields, or none of them has it and its value is that from before.
abbrev IsPut : List PlainField → List PlainField → List ℕ → Type 0
IsPut es ds n =
    ((d : PlainField) × Among ds d × (d.0 ≡ n) × (field_at (put_values es ds) n ≡ Some d.1))
    ⊎ (field_at ds n ≡ None) × (field_at (put_values es ds) n ≡ field_at es n)

put_case
    : (es ds : List PlainField) (d : PlainField) (n : List ℕ) (b : Bool) → bytes_eq d.0 n ≡ b → IsPut (put_value es d) ds n
    → IsPut es (d ∷ ds) n
put_case es ds d n b is (inl h) = inl (h.0, inr h.1, h.2, h.3)
put_case es ds d n true is (inr h) =
    inl (d, inl refl, names_equal d.0 n is, h.1 ∙ at_put es d n ∙ ap (λ c. cond c (Some d.1) (field_at es n)) is)
put_case es ds d n false is (inr h) =
    inr (
      ap (λ c. cond c (Some d.1) (field_at ds n)) is ∙ h.0,
      h.1 ∙ at_put es d n ∙ ap (λ c. cond c (Some d.1) (field_at es n)) is,
    )

all_put : (es ds : List PlainField) (n : List ℕ) → IsPut es ds n
all_put es [] n = inr (refl, refl)
all_put es (d ∷ ds) n = put_case es ds d n (bytes_eq d.0 n) refl (all_put (put_value es d) ds n)

-- ## What a value adds that is spread

-- these are fields of the member, and those that it requires are there
pub record AreOf (ds : List PlainField) (m : MemberData) : Type 0 where
  pub each : (d : PlainField) → Among ds d
      → (f : FieldData) × (field_named (fields_in m) d.0 ≡ Some f) × HasType d.1 f.type_data
  pub required : (n : List ℕ) → requires (fields_in m) n ≡ true → (y : Plain) × (field_at ds n ≡ Some y)

entries_typed
    : (ms : Members) (fs : List FieldData) (d : PlainField) → AreFields ms fs → Among (member_list ms) d
    → (f : FieldData) × (field_named fs d.0 ≡ Some f) × HasType d.1 f.type_data
unfolding AreFields HasType
entries_typed Last fs d h a = absurd a
entries_typed (Next name x more) fs d h (inl same) =
    subst (λ (e : PlainField). (f : FieldData) × (field_named fs e.0 ≡ Some f) × HasType e.1 f.type_data) same
    (h.0.0, h.0.1, (h.0.2, h.0.3, h.0.4))
entries_typed (Next name x more) fs d h (inr a) = entries_typed more fs d h.1 a

spread_member
    : (x : Plain) (m : MemberData) → may_be_spread m ≡ true → IsOf x m
    → (ds : List PlainField) × (spread_values x ≡ Ok ds) × AreOf ds m
unfolding spread_values
spread_member x (Values kinds.Undefined) e h =
    ([], ap spread_values (kind_is x kinds.Undefined h), record { each = λ d a. absurd a; required = λ n is. absurd cc })
spread_member x (Values kinds.Boolean) e h = absurd cc
spread_member x (Values kinds.Number) e h = absurd cc
spread_member x (Values kinds.String) e h = absurd cc
spread_member x (Values kinds.Path) e h = absurd cc
spread_member x (Values kinds.File) e h = absurd cc
spread_member x (Values kinds.Directory) e h = absurd cc
spread_member x (Values kinds.RelativePath) e h = absurd cc
spread_member x (Values kinds.PathAtom) e h = absurd cc
spread_member x (Values kinds.Seal) e h = absurd cc
spread_member x (Values kinds.Opaque) e h = absurd cc
spread_member x (Values kinds.Process) e h = absurd cc
spread_member x (Values kinds.Artifact) e h = absurd cc
spread_member x (Values kinds.Argument) e h = absurd cc
spread_member x (Lists item) e h = absurd cc
spread_member x (Objects row) e h =
    let o = object_is x row h in (
      member_list o.1,
      ap spread_values o.2,
      record {
        each = λ d a. entries_typed o.1 (field_list row) d o.3 a;
        required = λ n is. o.4 n is;
      },
    )

-- ## Both

named_case
    : (g : FieldData) (fs : List FieldData) (n : List ℕ) (f : FieldData) (b : Bool) → bytes_eq g.name n ≡ b
    → (field_named fs n ≡ Some f → Among fs f × (f.name ≡ n)) → cond b (Some g) (field_named fs n) ≡ Some f
    → Among (g ∷ fs) f × (f.name ≡ n)
named_case g fs n f true is more at =
    let same : g ≡ f = cc in (inl same, ap (λ (h : FieldData). h.name) (sym same) ∙ names_equal g.name n is)
named_case g fs n f false is more at = let r = more at in (inr r.0, r.1)

pub named_among
    : (fs : List FieldData) (n : List ℕ) (f : FieldData) → field_named fs n ≡ Some f → Among fs f × (f.name ≡ n)
named_among [] n f e = absurd cc
named_among (g ∷ fs) n f e = named_case g fs n f (bytes_eq g.name n) refl (named_among fs n f) e

module _ (ms : List MemberData) (m : MemberData) (among : Among ms m) where
  name_there : (n : List ℕ) (f : FieldData) → field_named (fields_in m) n ≡ Some f → Among (names_in ms) n
  name_there n f e =
      let r = named_among (fields_in m) n f e in
      subst (λ k. Among (names_in ms) k) r.1
      (among_map (λ (g : FieldData). g.name) (flat_map fields_in ms) f (among_flat fields_in ms m f among r.0))

  type_there
      : (n : List ℕ) (f : FieldData) (y : Plain) → field_named (fields_in m) n ≡ Some f → HasType y f.type_data
      → HasType y (spread_field ms n).type_data
  type_there n f y e h =
      has_one_of y (filter_map (type_of_field n) ms) f.type_data
      (among_filter_map (type_of_field n) ms m f.type_data among (ap (λ o. option_map (λ (g : FieldData). g.type_data) o) e)) h

  required_there : (n : List ℕ) → (spread_field ms n).optional ≡ false → requires (fields_in m) n ≡ true
  required_there n e =
      all_among (λ k. requires (fields_in k) n) ms m (not_not (list_all (λ k. requires (fields_in k) n) ms) e) among
    where
      not_not : (b : Bool) → not b ≡ false → b ≡ true
      not_not true e = refl
      not_not false e = absurd cc

  optional_or : (b : Bool) → (b ≡ true) ⊎ (b ≡ false)
  optional_or true = inl refl
  optional_or false = inr refl

  module _ (es ds : List PlainField) (done now : List FieldData) (holds : Holds es done) (of : AreOf ds m)
      (written : (n : List ℕ) → AreWritten (spread_field ms) (names_in ms) n (field_named done n) (field_named now n)) where
    -- a name that one of these fields has
    typed_put
        : (n : List ℕ) (y : Plain) (d : PlainField) → Among ds d → d.0 ≡ n → d.1 ≡ y
        → AreWritten (spread_field ms) (names_in ms) n (field_named done n) (field_named now n)
        → (f : FieldData) × (field_named now n ≡ Some f) × HasType y f.type_data
    typed_put n y d a name is (inl w) =
        let r = of.each d a in
        let h : HasType y r.0.type_data = subst (λ z. HasType z r.0.type_data) is r.2 in
        (w.0, w.1, w.2 y (type_there n r.0 y (ap (field_named (fields_in m)) (sym name) ∙ r.1) h))
    typed_put n y d a name is (inr h) =
        let r = of.each d a in
        absurd (h.0 (name_there n r.0 (ap (field_named (fields_in m)) (sym name) ∙ r.1)))

    -- a name that none of them has
    typed_kept
        : (n : List ℕ) (y : Plain) → field_at ds n ≡ None → field_at es n ≡ Some y
        → AreWritten (spread_field ms) (names_in ms) n (field_named done n) (field_named now n)
        → (f : FieldData) × (field_named now n ≡ Some f) × HasType y f.type_data
    typed_kept n y none at (inl w) =
        let e = holds.typed n y at in (w.0, w.1, by_optional e (optional_or (spread_field ms n).optional))
      where
        by_optional
            : ((e : FieldData) × (field_named done n ≡ Some e) × HasType y e.type_data)
            → ((spread_field ms n).optional ≡ true) ⊎ ((spread_field ms n).optional ≡ false) → HasType y w.0.type_data
        by_optional e (inl opt) = w.3 opt e.0 e.1 y e.2
        by_optional e (inr required) =
            let r = of.required n (required_there n required) in
            absurd (let no : None ≡ Some r.0 = sym none ∙ r.1 in cc)
    typed_kept n y none at (inr h) = let e = holds.typed n y at in (e.0, h.1 ∙ e.1, e.2)

    typed_now
        : (n : List ℕ) (y : Plain) → IsPut es ds n → field_at (put_values es ds) n ≡ Some y
        → (f : FieldData) × (field_named now n ≡ Some f) × HasType y f.type_data
    typed_now n y (inl h) at =
        let same : Some h.0.1 ≡ Some y = sym h.3 ∙ at in
        let value : h.0.1 ≡ y = cc in typed_put n y h.0 h.1 h.2 value (written n)
    typed_now n y (inr h) at = typed_kept n y h.0 (sym h.1 ∙ at) (written n)

    there_put : (n : List ℕ) (y : Plain) → IsPut es ds n → field_at es n ≡ Some y → (z : Plain) × (field_at (put_values es ds) n ≡ Some z)
    there_put n y (inl h) at = (h.0.1, h.3)
    there_put n y (inr h) at = (y, h.1 ∙ at)

    there_spread : (n : List ℕ) (y : Plain) → IsPut es ds n → field_at ds n ≡ Some y → (z : Plain) × (field_at (put_values es ds) n ≡ Some z)
    there_spread n y (inl h) at = (h.0.1, h.3)
    there_spread n y (inr h) at = absurd (let no : None ≡ Some y = sym h.0 ∙ at in cc)

    requires_field : (o : Option FieldData) → holds_of (λ (f : FieldData). not f.optional) o ≡ true
        → (f : FieldData) × (o ≡ Some f) × (f.optional ≡ false)
    requires_field None e = absurd cc
    requires_field (Some f) e = (f, refl, not_true f.optional e)
      where
        not_true : (b : Bool) → not b ≡ true → b ≡ false
        not_true true e = absurd cc
        not_true false e = refl

    required_case
        : (n : List ℕ) → requires now n ≡ true
        → AreWritten (spread_field ms) (names_in ms) n (field_named done n) (field_named now n)
        → (z : Plain) × (field_at (put_values es ds) n ≡ Some z)
    required_case n is (inl w) =
        let f = requires_field (field_named now n) is in
        let same : Some f.0 ≡ Some w.0 = sym f.1 ∙ w.1 in
        let field : f.0 ≡ w.0 = cc in
        onward (w.4 (ap (λ (g : FieldData). g.optional) (sym field) ∙ f.2))
      where
        onward
            : ((spread_field ms n).optional ≡ false) ⊎ ((e : FieldData) × (field_named done n ≡ Some e) × (e.optional ≡ false))
            → (z : Plain) × (field_at (put_values es ds) n ≡ Some z)
        onward (inl required) =
            let r = of.required n (required_there n required) in there_spread n r.0 (all_put es ds n) r.1
        onward (inr h) =
            let r = holds.required n (ap (holds_of (λ (f : FieldData). not f.optional)) h.1 ∙ ap not h.2) in
            there_put n r.0 (all_put es ds n) r.1
    required_case n is (inr h) =
        let r = holds.required n (ap (holds_of (λ (f : FieldData). not f.optional)) (sym h.1) ∙ is) in
        there_put n r.0 (all_put es ds n) r.1

    pub spread_now : Holds (put_values es ds) now
    spread_now = record {
      typed = λ n y at. typed_now n y (all_put es ds n) at;
      required = λ n is. required_case n is (written n);
    }

spread_case
    : (ms : List MemberData) (gs : List FieldData) (b : Bool) → list_all may_be_spread ms ≡ b
    → cond b (Some (map (spread_field ms) (names_in ms))) None ≡ Some gs
    → (list_all may_be_spread ms ≡ true) × (map (spread_field ms) (names_in ms) ≡ gs)
spread_case ms gs true is e = let same : map (spread_field ms) (names_in ms) ≡ gs = cc in (is, same)
spread_case ms gs false is e = absurd cc

-- What a value of a type adds where it is spread is what the type adds to the fields before it.
pub spread_holds
    : (x : Plain) (t : TypeData) (gs done now : List FieldData) → spread_fields t ≡ Some gs → write_fields done gs ≡ Some now
    → HasType x t
    → Answers (List PlainField) (λ ds. (es : List PlainField) → Holds es done → Holds (put_values es ds) now) (spread_values x)
unfolding spread_fields
spread_holds x t gs done now e wrote h =
    let s = spread_case (members_of t) gs (list_all may_be_spread (members_of t)) refl e in
    let r = of_has x t h in
    let m = spread_member x r.0 (all_among may_be_spread (members_of t) r.0 s.0 r.1) r.2 in
    subst (λ o. Answers (List PlainField) (λ ds. (es : List PlainField) → Holds es done → Holds (put_values es ds) now) o) (sym m.1)
    (λ es holds. spread_now (members_of t) r.0 r.1 es m.0 done now holds m.2
    (λ n. all_written (spread_field (members_of t)) (names_in (members_of t)) done now n (λ k. refl)
    (ap (write_fields done) s.1 ∙ wrote)))
