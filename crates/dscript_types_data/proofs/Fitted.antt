-- Fits, member by member.
use Rattle.std.proofs.Common.{◌≡◌, ℕ, zero, suc, ◌+◌, ◌*◌, ◌<◌, ◌≤◌, ◌&&◌, Bool, true, false, List, [], ◌∷◌, drop, get_or, length, map, refl, ap, sym, ◌∙◌, arith}
use Rattle.std.specs.List.{list_any}
use Rattle.dscript_types_data.specs.declared.types.Field.{Field}
use Rattle.dscript_types_data.specs.declared.types.Member.{Member}
use Rattle.dscript_types_data.specs.Views.{field_data, member_data}
use Rattle.dscript_types_data.specs.Weight.{fields_size, member_weight, members_weight, type_size}
use Rattle.dscript_types_data.proofs.Rows.{fields_again, members_again, rows_again, size_again}
use Rattle.dscript_types_meaning.specs.declared.kind.Kind.{Kind}
use Rattle.dscript_types_meaning.specs.Fits.{all_fit, are_required, fields_fit, fits, member_fits}
use Rattle.dscript_types_meaning.specs.Types.{FieldData, FieldRow, MemberData, TypeData, Union, Values, Lists, Objects}
use Rattle.dscript_types_meaning.specs.Types.{field_list, members_of, to_fields, to_members}

pub fits_rows : (t u : TypeData) → all_fit (to_members (members_of t)) (members_of u) ≡ fits t u
unfolding fits
fits_rows (Union ms) u = ap (λ r. all_fit r (members_of u)) (rows_again ms)

abbrev kinds_type : List Kind → TypeData
kinds_type ks = Union (to_members (map Values ks))

pub fits_kinds
    : (t : TypeData) (ks : List Kind) (ms : List MemberData) → ms ≡ members_of t
    → all_fit (to_members ms) (map Values ks) ≡ fits t (kinds_type ks)
fits_kinds t ks ms e =
    ap (λ xs. all_fit (to_members xs) (map Values ks)) e
    ∙ ap (λ ys. all_fit (to_members (members_of t)) ys) (sym (members_again (map Values ks)))
    ∙ fits_rows t (kinds_type ks)

pub lists_no_kind : (t : TypeData) (ks : List Kind) → false ≡ list_any (λ o. member_fits (Lists t) o) (map Values ks)
unfolding member_fits
lists_no_kind t [] = refl
lists_no_kind t (k ∷ ks) = lists_no_kind t ks

pub objects_no_kind : (fs : FieldRow) (ks : List Kind) → false ≡ list_any (λ o. member_fits (Objects fs) o) (map Values ks)
unfolding member_fits
objects_no_kind fs [] = refl
objects_no_kind fs (k ∷ ks) = objects_no_kind fs ks

next : (i : ℕ) → suc i ≡ i + 1
next i = omega arith

-- one member after another fits
fits_first
    : (ms : List Member) (i : ℕ) (m : Member) (others : List MemberData) → i < length ms → m ≡ get_or ms i m
    → all_fit (to_members (map member_data (drop i ms))) others
    ≡ (list_any (λ o. member_fits (member_data m) o) others && all_fit (to_members (map member_data (drop (suc i) ms))) others)
unfolding all_fit
fits_first [] i m others l e = absurd (omega (arith, l))
fits_first (x ∷ xs) zero m others l e =
    ap (λ (y : Member). list_any (λ o. member_fits (member_data y) o) others && all_fit (to_members (map member_data xs)) others)
    (sym e)
fits_first (x ∷ xs) (suc i) m others l e = fits_first xs i m others (omega (arith, l)) e

first_fits
    : (ms : List Member) (i : ℕ) (m : Member) (others : List MemberData) → i < length ms → m ≡ get_or ms i m
    → all_fit (to_members (map member_data (drop i ms))) others
    ≡ (list_any (λ o. member_fits (member_data m) o) others && all_fit (to_members (map member_data (drop (i + 1) ms))) others)
first_fits ms i m others l e =
    fits_first ms i m others l e
    ∙ ap (λ k. list_any (λ o. member_fits (member_data m) o) others && all_fit (to_members (map member_data (drop k ms))) others)
    (next i)

pub member_goes
    : (ms : List Member) (i : ℕ) (m : Member) (others : List MemberData) (one : Bool) → i < length ms
    → m ≡ get_or ms i m → one ≡ list_any (λ o. member_fits (member_data m) o) others → true ≡ one
    → all_fit (to_members (map member_data (drop (i + 1) ms))) others
    ≡ all_fit (to_members (map member_data (drop i ms))) others
member_goes ms i m others one l e is holds =
    sym
    (first_fits ms i m others l e
    ∙ ap (λ b. b && all_fit (to_members (map member_data (drop (i + 1) ms))) others) (sym (holds ∙ is)))

pub member_stops
    : (ms : List Member) (i : ℕ) (m : Member) (others : List MemberData) (one : Bool) → i < length ms
    → m ≡ get_or ms i m → one ≡ list_any (λ o. member_fits (member_data m) o) others → false ≡ one
    → false ≡ all_fit (to_members (map member_data (drop i ms))) others
member_stops ms i m others one l e is fails =
    sym
    (first_fits ms i m others l e
    ∙ ap (λ b. b && all_fit (to_members (map member_data (drop (i + 1) ms))) others) (sym (fails ∙ is)))

-- objects fit by their fields
pub objects_fit
    : (fs os a b c d : List FieldData) → a ≡ fs → b ≡ os → c ≡ os → d ≡ fs
    → (fields_fit (to_fields a) b && are_required c d) ≡ member_fits (Objects (to_fields fs)) (Objects (to_fields os))
unfolding member_fits
objects_fit fs os a b c d ea eb ec ed =
    ap (λ r. fields_fit (to_fields r) b && are_required c d) ea
    ∙ ap (λ r. fields_fit (to_fields fs) r && are_required c d) (eb ∙ sym (fields_again os))
    ∙ ap (λ r. fields_fit (to_fields fs) (field_list (to_fields os)) && are_required r d) (ec ∙ sym (fields_again os))
    ∙ ap (λ r. fields_fit (to_fields fs) (field_list (to_fields os)) && are_required (field_list (to_fields os)) r)
    (ed ∙ sym (fields_again fs))

pub fields_unfit
    : (fs os a b : List FieldData) (fit : Bool) → a ≡ fs → b ≡ os → fit ≡ fields_fit (to_fields a) b → false ≡ fit
    → fit ≡ member_fits (Objects (to_fields fs)) (Objects (to_fields os))
unfolding member_fits
fields_unfit fs os a b fit ea eb is fails =
    sym fails
    ∙ ap (λ r. r && are_required (field_list (to_fields os)) (field_list (to_fields fs)))
    (fails ∙ is ∙ ap (λ r. fields_fit (to_fields r) b) ea
    ∙ ap (λ r. fields_fit (to_fields fs) r) (eb ∙ sym (fields_again os)))

-- ## What falls

pub member_lighter
    : (ms : List Member) (i : ℕ) (m : Member) → i < length ms → m ≡ get_or ms i m
    → 1 + member_weight (member_data m) ≤ members_weight (to_members (map member_data ms))
member_lighter [] i m l e = absurd (omega (arith, l))
member_lighter (x ∷ xs) zero m l e = omega (arith, ap (λ (y : Member). member_weight (member_data y)) e)
member_lighter (x ∷ xs) (suc i) m l e = omega (arith, member_lighter xs i m (omega (arith, l)) e)

pub member_of_type
    : (ms : List Member) (i : ℕ) (m : Member) (t : TypeData) → i < length ms → m ≡ get_or ms i m
    → map member_data ms ≡ members_of t → 2 * member_weight (member_data m) + 1 < 2 * type_size t
member_of_type ms i m t l e is =
    omega (arith, member_lighter ms i m l e, ap (λ xs. members_weight (to_members xs)) is, size_again t)

pub field_lighter
    : (fs : List Field) (i : ℕ) (f : Field) → i < length fs → f ≡ get_or fs i f
    → 2 * type_size f.type_data < 2 * fields_size (map field_data fs)
field_lighter [] i f l e = absurd (omega (arith, l))
field_lighter (x ∷ xs) zero f l e = omega (arith, ap (λ (y : Field). type_size y.type_data) e)
field_lighter (x ∷ xs) (suc i) f l e = omega (arith, field_lighter xs i f (omega (arith, l)) e)
