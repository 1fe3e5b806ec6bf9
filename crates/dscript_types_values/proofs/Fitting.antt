-- What fits a type is of it.
use Rattle.std.proofs.Common.{◌≡◌, ℕ, Bool, true, false, cond, not, ◌&&◌, ◌||◌, List, [], ◌∷◌, Option, Some, None, refl}
use Rattle.std.proofs.Common.{sym, ap, ◌∙◌, subst, inl, inr, eqb-true}
use Rattle.std.specs.List.{list_any}
use Rattle.std.specs.Str.{bytes_eq}
use Rattle.std.proofs.lemmas.Slice.Eq.{bytes_eq-Decides}
use Rattle.dscript_value.specs.Plain as plain
use Rattle.dscript_value.specs.Plain.{Plain, Items, End, More, Members, Last, Next}
use Rattle.dscript_types_meaning.specs.declared.kind.Kind.{Kind}
use Rattle.dscript_types_meaning.specs.declared.kind.Kind.TheVariants as kinds
use Rattle.dscript_types_meaning.specs.Types.{TypeData, MemberData, MemberRow, FieldRow, FieldData, Union, Values, Lists}
use Rattle.dscript_types_meaning.specs.Types.{Objects, no_members, more_members, no_fields, more_fields, field_list}
use Rattle.dscript_types_meaning.specs.Types.{kind_type, member_list as member_row, members_of}
use Rattle.dscript_types_meaning.specs.Codes.{kind_number}
use Rattle.dscript_types_meaning.specs.Fits.{all_fit, are_required, field_named, fields_fit, fits, holds_of, member_fits}
use Rattle.dscript_types_meaning.specs.Fits.{requires, same_kind}
use Rattle.dscript_types_meaning.specs.Values.{AreFields, AreItems, HasType, IsOf}
use Rattle.dscript_types_values.proofs.Among.{Among, among_of, and_left, and_right, any_among, contains_of}
use Rattle.dscript_types_values.proofs.Coding.{one_kind}
use Rattle.dscript_types_values.proofs.Joining.{IsAmong, has_of, of_has}
use Rattle.dscript_types_values.proofs.KindForms.{IsKind, kind_is}

pub kinds_same : (k l : Kind) → same_kind k l ≡ true → k ≡ l
kinds_same k l e = one_kind k l (eqb-true (kind_number k) (kind_number l) e)

-- a member of a type that fits another fits one of its members
row_fits
    : (ms : MemberRow) (others : List MemberData) (m : MemberData) → all_fit ms others ≡ true → Among (member_row ms) m
    → (o : MemberData) × Among others o × (member_fits m o ≡ true)
unfolding all_fit
row_fits no_members others m e a = absurd a
row_fits (more_members n more) others m e (inl is) =
    let r = any_among (λ o. member_fits n o) others (and_left (list_any (λ o. member_fits n o) others) (all_fit more others) e) in
    (r.0, r.1, ap (λ x. member_fits x r.0) (sym is) ∙ r.2)
row_fits (more_members n more) others m e (inr a) =
    row_fits more others m (and_right (list_any (λ o. member_fits n o) others) (all_fit more others) e) a

pub fits_some_member
    : (t u : TypeData) (m : MemberData) → fits t u ≡ true → Among (members_of t) m
    → (o : MemberData) × Among (members_of u) o × (member_fits m o ≡ true)
unfolding fits
fits_some_member (Union ms) u m e a = row_fits ms (members_of u) m e a

-- ## What a member fits

kind_fits : (k : Kind) (o : MemberData) → member_fits (Values k) o ≡ true → o ≡ Values k
unfolding member_fits
kind_fits k (Values l) e = ap Values (sym (kinds_same k l e))
kind_fits k (Lists u) e = absurd cc
kind_fits k (Objects gs) e = absurd cc

list_fits
    : (t : TypeData) (o : MemberData) → member_fits (Lists t) o ≡ true
    → (u : TypeData) × (o ≡ Lists u) × (fits t u ≡ true)
unfolding member_fits
list_fits t (Values l) e = absurd cc
list_fits t (Lists u) e = (u, refl, e)
list_fits t (Objects gs) e = absurd cc

object_fits
    : (fs : FieldRow) (o : MemberData) → member_fits (Objects fs) o ≡ true
    → (gs : FieldRow) × (o ≡ Objects gs) × (fields_fit fs (field_list gs) ≡ true)
    × (are_required (field_list gs) (field_list fs) ≡ true)
unfolding member_fits
object_fits fs (Values l) e = absurd cc
object_fits fs (Lists u) e = absurd cc
object_fits fs (Objects gs) e = (
  gs,
  refl,
  and_left (fields_fit fs (field_list gs)) (are_required (field_list gs) (field_list fs)) e,
  and_right (fields_fit fs (field_list gs)) (are_required (field_list gs) (field_list fs)) e,
)

-- ## Fields

pub holds_some
    : {X : Type 0} (test : X → Bool) (o : Option X) → holds_of test o ≡ true
    → (x : X) × (o ≡ Some x) × (test x ≡ true)
holds_some test None e = absurd cc
holds_some test (Some x) e = (x, refl, e)

named_case
    : (x : List ℕ) (o : Bool) (t : TypeData) (more : FieldRow) (others : List FieldData) (name : List ℕ)
    (f : FieldData) (b : Bool) → bytes_eq x name ≡ b
    → holds_of (λ (g : FieldData). fits t g.type_data) (field_named others x) ≡ true
    → (field_named (field_list more) name ≡ Some f
    → (g : FieldData) × (field_named others name ≡ Some g) × (fits f.type_data g.type_data ≡ true))
    → cond b (Some (record { name = x; optional = o; type_data = t })) (field_named (field_list more) name) ≡ Some f
    → (g : FieldData) × (field_named others name ≡ Some g) × (fits f.type_data g.type_data ≡ true)
named_case x o t more others name f true same here rest is =
    let r = holds_some (λ (g : FieldData). fits t g.type_data) (field_named others x) here in
    let it : t ≡ f.type_data = cc in (
      r.0,
      ap (field_named others) (sym ((bytes_eq-Decides x name).0 same)) ∙ r.1,
      ap (λ u. fits u r.0.type_data) (sym it) ∙ r.2,
    )
named_case x o t more others name f false same here rest is = rest is

-- a field has a field of its name among those that all fit, and fits it
pub named_fits
    : (fs : FieldRow) (others : List FieldData) (name : List ℕ) (f : FieldData) → fields_fit fs others ≡ true
    → field_named (field_list fs) name ≡ Some f
    → (g : FieldData) × (field_named others name ≡ Some g) × (fits f.type_data g.type_data ≡ true)
unfolding fields_fit
named_fits no_fields others name f e is = absurd cc
named_fits (more_fields x o t more) others name f e is =
    named_case x o t more others name f (bytes_eq x name) refl
    (and_left (holds_of (λ (g : FieldData). fits t g.type_data) (field_named others x)) (fields_fit more others) e)
    (named_fits more others name f
    (and_right (holds_of (λ (g : FieldData). fits t g.type_data) (field_named others x)) (fields_fit more others) e))
    is

required_case
    : (f : FieldData) (fs others : List FieldData) (name : List ℕ) (b : Bool) → bytes_eq f.name name ≡ b
    → (f.optional || requires others f.name) ≡ true → (requires fs name ≡ true → requires others name ≡ true)
    → holds_of (λ (g : FieldData). not g.optional) (cond b (Some f) (field_named fs name)) ≡ true
    → requires others name ≡ true
required_case f fs others name true same here rest is =
    ap (requires others) (sym ((bytes_eq-Decides f.name name).0 same)) ∙ or_other f.optional (requires others f.name) here is
  where
    or_other : (a b : Bool) → (a || b) ≡ true → not a ≡ true → b ≡ true
    or_other true b e n = absurd cc
    or_other false b e n = e
required_case f fs others name false same here rest is = rest is

-- what is required is required there too
pub required_there
    : (fs others : List FieldData) (name : List ℕ) → are_required fs others ≡ true → requires fs name ≡ true
    → requires others name ≡ true
required_there [] others name e is = absurd cc
required_there (f ∷ fs) others name e is =
    required_case f fs others name (bytes_eq f.name name) refl
    (and_left (f.optional || requires others f.name) (are_required fs others) e)
    (required_there fs others name (and_right (f.optional || requires others f.name) (are_required fs others) e)) is

-- ## Values

mutual
  unfolding IsOf AreItems AreFields

  pub value_fits : (x : Plain) (m o : MemberData) → IsOf x m → member_fits m o ≡ true → IsOf x o
  value_fits plain.Undefined m o h e = kind_fits _ o (subst (λ n. member_fits n o ≡ true) h e)
  value_fits (plain.Flag flag) m o h e = kind_fits _ o (subst (λ n. member_fits n o ≡ true) h e)
  value_fits (plain.Number number) m o h e = kind_fits _ o (subst (λ n. member_fits n o ≡ true) h e)
  value_fits (plain.Text text) m o h e = kind_fits _ o (subst (λ n. member_fits n o ≡ true) h e)
  value_fits (plain.Path path) m o h e = kind_fits _ o (subst (λ n. member_fits n o ≡ true) h e)
  value_fits (plain.File file) m o h e = kind_fits _ o (subst (λ n. member_fits n o ≡ true) h e)
  value_fits (plain.Directory path) m o h e = kind_fits _ o (subst (λ n. member_fits n o ≡ true) h e)
  value_fits (plain.Relative atoms) m o h e = kind_fits _ o (subst (λ n. member_fits n o ≡ true) h e)
  value_fits (plain.Atom text) m o h e = kind_fits _ o (subst (λ n. member_fits n o ≡ true) h e)
  value_fits (plain.Static dir) m o h e = kind_fits _ o (subst (λ n. member_fits n o ≡ true) h e)
  value_fits (plain.Process pip) m o h e = kind_fits _ o (subst (λ n. member_fits n o ≡ true) h e)
  value_fits (plain.Artifact artifact) m o h e = kind_fits _ o (subst (λ n. member_fits n o ≡ true) h e)
  value_fits (plain.Argument argument) m o h e = kind_fits _ o (subst (λ n. member_fits n o ≡ true) h e)
  value_fits (plain.Listed depth xs) m o h e =
      let l = list_fits h.0 o (subst (λ n. member_fits n o ≡ true) h.1 e) in
      (l.0, l.1, items_fit xs h.0 l.0 h.2 l.2)
  value_fits (plain.Object depth ms) m o h e =
      let r = object_fits h.0 o (subst (λ n. member_fits n o ≡ true) h.1 e) in (
        r.0,
        r.1,
        members_fit ms h.0 (field_list r.0) h.2 r.2,
        λ name is. h.3 name (required_there (field_list r.0) (field_list h.0) name r.3 is),
      )
  value_fits (plain.Function callee depth held) m o h e = h

  items_fit : (xs : Items) (t u : TypeData) → AreItems xs t → fits t u ≡ true → AreItems xs u
  items_fit End t u h e = tt
  items_fit (More x xs) t u h e =
      let r = fits_some_member t u h.0.0 e (among_of (members_of t) h.0.0 h.0.1) in
      ((r.0, contains_of (members_of u) r.0 r.1, value_fits x h.0.0 r.0 h.0.2 r.2), items_fit xs t u h.1 e)

  members_fit
      : (ms : Members) (fs : FieldRow) (gs : List FieldData) → AreFields ms (field_list fs)
      → fields_fit fs gs ≡ true → AreFields ms gs
  members_fit Last fs gs h e = tt
  members_fit (Next name x more) fs gs h e =
      let n = named_fits fs gs name h.0.0 e h.0.1 in
      let r = fits_some_member h.0.0.type_data n.0.type_data h.0.2 n.2 (among_of (members_of h.0.0.type_data) h.0.2 h.0.3) in (
        (n.0, n.1, r.0, contains_of (members_of n.0.type_data) r.0 r.1, value_fits x h.0.2 r.0 h.0.4 r.2),
        members_fit more fs gs h.1 e,
      )

-- a value of a type is of each type that the type fits
pub fits_has : (x : Plain) (t u : TypeData) → fits t u ≡ true → HasType x t → HasType x u
unfolding HasType
fits_has x t u e h =
    let r = fits_some_member t u h.0 e (among_of (members_of t) h.0 h.1) in
    (r.0, contains_of (members_of u) r.0 r.1, value_fits x h.0 r.0 h.2 r.2)

-- ## Single kinds

pub has_kind : (x : Plain) (k : Kind) → HasType x (kind_type k) → IsKind k x
has_kind x k h = onward (of_has x (kind_type k) h)
  where
    onward : IsAmong x (Values k ∷ []) → IsKind k x
    onward r = kind_is x k (subst (λ m. IsOf x m) (one r.0 r.1) r.2)
      where
        one : (m : MemberData) → Among (Values k ∷ []) m → m ≡ Values k
        one m (inl is) = sym is
        one m (inr a) = absurd a

-- a value of a type that fits a kind is of the kind
pub fits_kind : (x : Plain) (t : TypeData) (k : Kind) → fits t (kind_type k) ≡ true → HasType x t → IsKind k x
fits_kind x t k e h = has_kind x k (fits_has x t (kind_type k) e h)

kind_of_value : (k : Kind) (x : Plain) → IsKind k x → IsOf x (Values k)
unfolding IsOf
kind_of_value kinds.Undefined x h = subst (λ y. IsOf y (Values kinds.Undefined)) (sym h) refl
kind_of_value kinds.Boolean x h = subst (λ y. IsOf y (Values kinds.Boolean)) (sym h.1) refl
kind_of_value kinds.Number x h = subst (λ y. IsOf y (Values kinds.Number)) (sym h.1) refl
kind_of_value kinds.String x h = subst (λ y. IsOf y (Values kinds.String)) (sym h.1) refl
kind_of_value kinds.Path x h = subst (λ y. IsOf y (Values kinds.Path)) (sym h.1) refl
kind_of_value kinds.File x h = subst (λ y. IsOf y (Values kinds.File)) (sym h.1) refl
kind_of_value kinds.Directory x h = subst (λ y. IsOf y (Values kinds.Directory)) (sym h.1) refl
kind_of_value kinds.RelativePath x h = subst (λ y. IsOf y (Values kinds.RelativePath)) (sym h.1) refl
kind_of_value kinds.PathAtom x h = subst (λ y. IsOf y (Values kinds.PathAtom)) (sym h.1) refl
kind_of_value kinds.Seal x h = subst (λ y. IsOf y (Values kinds.Seal)) (sym h.2) refl
kind_of_value kinds.Opaque x h = subst (λ y. IsOf y (Values kinds.Opaque)) (sym h.2) refl
kind_of_value kinds.Process x h = subst (λ y. IsOf y (Values kinds.Process)) (sym h.1) refl
kind_of_value kinds.Artifact x h = subst (λ y. IsOf y (Values kinds.Artifact)) (sym h.1) refl
kind_of_value kinds.Argument x h = subst (λ y. IsOf y (Values kinds.Argument)) (sym h.1) refl

-- a value of a kind is of its type
pub kind_has : (k : Kind) (x : Plain) → IsKind k x → HasType x (kind_type k)
kind_has k x h = has_of x (kind_type k) (Values k, inl refl, kind_of_value k x h)
