-- Where a field is put among others.
use Rattle.std.proofs.Common.{◌≡◌, ℕ, zero, suc, ◌+◌, ◌<◌, ◌≤◌, List, [], ◌∷◌, ◌++◌, drop, flat_map, take, length, get_or, map, set, refl, ap, sym, ◌∙◌, arith, append_assoc}
use Rattle.std.specs.Cmp.Lexicographic.{slice_cmp}
use Rattle.std.specs.Ordering.{match_ordering, nat_cmp}
use Rattle.std.specs.declared.cmp.Ordering.{Ordering}
use Rattle.std.specs.declared.cmp.Ordering.TheVariants.{Less, Equal, Greater}
use Rattle.std.proofs.lemmas.List.{drop_all, map-append, map-set}
use Rattle.dscript_types_data.specs.declared.types.Field.{Field}
use Rattle.dscript_types_data.specs.declared.types.Member.{Member}
use Rattle.dscript_types_data.specs.Places.{IsNewAt, ReplacesAt}
use Rattle.dscript_types_data.specs.Views.{field_data, member_data}
use Rattle.dscript_types_meaning.specs.Objects.{fields_in, names_in, put_field, spread_field}
use Rattle.dscript_types_meaning.specs.Types.{FieldData, MemberData}

abbrev pub seen : List Field → List FieldData
seen fs = map field_data fs

length_seen : (fs : List Field) → length (seen fs) ≡ length fs
length_seen [] = refl
length_seen (f ∷ fs) = ap suc (length_seen fs)

next : (i : ℕ) → suc i ≡ i + 1
next i = omega arith

-- what is left from a place on begins with the field there
drops_at
    : (fs : List Field) (i : ℕ) (x : Field) → i < length fs → x ≡ get_or fs i x
    → drop i (seen fs) ≡ field_data x ∷ drop (suc i) (seen fs)
drops_at [] i x l e = absurd (omega (arith, l))
drops_at (y ∷ ys) zero x l e = ap (λ z. field_data z ∷ seen ys) (sym e)
drops_at (y ∷ ys) (suc i) x l e = drops_at ys i x (omega (arith, l)) e

drop_at
    : (fs : List Field) (i : ℕ) (x : Field) → i < length fs → x ≡ get_or fs i x
    → drop i (seen fs) ≡ field_data x ∷ drop (i + 1) (seen fs)
drop_at fs i x l e = drops_at fs i x l e ∙ ap (λ k. field_data x ∷ drop k (seen fs)) (next i)

takes_at
    : (fs : List Field) (i : ℕ) (x : Field) → i < length fs → x ≡ get_or fs i x
    → take (suc i) (seen fs) ≡ take i (seen fs) ++ field_data x ∷ []
takes_at [] i x l e = absurd (omega (arith, l))
takes_at (y ∷ ys) zero x l e = ap (λ z. field_data z ∷ []) (sym e)
takes_at (y ∷ ys) (suc i) x l e = ap (λ zs. field_data y ∷ zs) (takes_at ys i x (omega (arith, l)) e)

take_at
    : (fs : List Field) (i : ℕ) (x : Field) → i < length fs → x ≡ get_or fs i x
    → take (i + 1) (seen fs) ≡ take i (seen fs) ++ field_data x ∷ []
take_at fs i x l e = ap (λ k. take k (seen fs)) (sym (next i)) ∙ takes_at fs i x l e

-- so far the field belongs further on
abbrev pub GoesOn : List Field → FieldData → ℕ → Type 0
GoesOn fs f i = put_field (seen fs) f ≡ take i (seen fs) ++ put_field (drop i (seen fs)) f

put_here
    : (fs : List Field) (f : FieldData) (i : ℕ) (x : Field) → i < length fs → x ≡ get_or fs i x
    → put_field (drop i (seen fs)) f
    ≡ match_ordering (slice_cmp nat_cmp f.name (field_data x).name) (f ∷ field_data x ∷ drop (i + 1) (seen fs))
    (f ∷ drop (i + 1) (seen fs)) (field_data x ∷ put_field (drop (i + 1) (seen fs)) f)
put_here fs f i x l e = ap (λ xs. put_field xs f) (drop_at fs i x l e)

pub before_it
    : (fs : List Field) (f : FieldData) (i : ℕ) (x : Field) (o : Ordering) → i < length fs → x ≡ get_or fs i x
    → o ≡ Less → o ≡ slice_cmp nat_cmp f.name (field_data x).name → GoesOn fs f i → IsNewAt (seen fs) f i
before_it fs f i x o l e less is h = record {
  within = omega (arith, l, length_seen fs);
  is = h
      ∙ ap (λ xs. take i (seen fs) ++ xs)
      (put_here fs f i x l e
      ∙ ap (λ r. match_ordering r (f ∷ field_data x ∷ drop (i + 1) (seen fs)) (f ∷ drop (i + 1) (seen fs))
      (field_data x ∷ put_field (drop (i + 1) (seen fs)) f)) (sym is ∙ less)
      ∙ ap (λ xs. f ∷ xs) (sym (drop_at fs i x l e)));
}

pub at_it
    : (fs : List Field) (f : FieldData) (i : ℕ) (x : Field) (o : Ordering) → i < length fs → x ≡ get_or fs i x
    → o ≡ Equal → o ≡ slice_cmp nat_cmp f.name (field_data x).name → GoesOn fs f i → ReplacesAt (seen fs) f i
at_it fs f i x o l e same is h = record {
  within = omega (arith, l, length_seen fs);
  is = h
      ∙ ap (λ xs. take i (seen fs) ++ xs)
      (put_here fs f i x l e
      ∙ ap (λ r. match_ordering r (f ∷ field_data x ∷ drop (i + 1) (seen fs)) (f ∷ drop (i + 1) (seen fs))
      (field_data x ∷ put_field (drop (i + 1) (seen fs)) f)) (sym is ∙ same));
}

pub behind_it
    : (fs : List Field) (f : FieldData) (i : ℕ) (x : Field) (o : Ordering) → i < length fs → x ≡ get_or fs i x
    → o ≡ Greater → o ≡ slice_cmp nat_cmp f.name (field_data x).name → GoesOn fs f i → GoesOn fs f (i + 1)
behind_it fs f i x o l e more is h =
    h ∙ ap (λ xs. take i (seen fs) ++ xs)
    (put_here fs f i x l e
    ∙ ap (λ r. match_ordering r (f ∷ field_data x ∷ drop (i + 1) (seen fs)) (f ∷ drop (i + 1) (seen fs))
    (field_data x ∷ put_field (drop (i + 1) (seen fs)) f)) (sym is ∙ more))
    ∙ sym (append_assoc (take i (seen fs)) (field_data x ∷ []) (put_field (drop (i + 1) (seen fs)) f))
    ∙ ap (λ xs. xs ++ put_field (drop (i + 1) (seen fs)) f) (sym (take_at fs i x l e))

take_none : (X : Type 0) (i : ℕ) → take {A = X} i [] ≡ []
take_none X zero = refl
take_none X (suc i) = refl

take_all : {X : Type 0} (xs : List X) (i : ℕ) → length xs ≤ i → take i xs ≡ xs
take_all {X} [] i l = take_none X i
take_all (x ∷ xs) zero l = absurd (omega (arith, l))
take_all (x ∷ xs) (suc i) l = ap (λ ys. x ∷ ys) (take_all xs i (omega (arith, l)))

-- behind all
pub at_last
    : (fs : List Field) (f : FieldData) (i n : ℕ) → length fs ≤ i → n ≡ length fs → GoesOn fs f i → IsNewAt (seen fs) f n
at_last fs f i n l is h =
    let longer : length (seen fs) ≤ i = omega (arith, l, length_seen fs) in
    let end : length (seen fs) ≤ n = omega (arith, is, length_seen fs) in
    record {
      within = omega (arith, is, length_seen fs);
      is = h
          ∙ ap (λ xs. take i (seen fs) ++ put_field xs f) (drop_all i (seen fs) longer)
          ∙ ap (λ xs. xs ++ f ∷ []) (take_all (seen fs) i longer ∙ sym (take_all (seen fs) n end))
          ∙ ap (λ xs. take n (seen fs) ++ f ∷ xs) (sym (drop_all n (seen fs) end));
    }

-- ## Changes of lists

sets_at : (xs : List FieldData) (i : ℕ) (f : FieldData) → i < length xs → set xs i f ≡ take i xs ++ f ∷ drop (suc i) xs
sets_at [] i f l = absurd (omega (arith, l))
sets_at (x ∷ xs) zero f l = refl
sets_at (x ∷ xs) (suc i) f l = ap (λ ys. x ∷ ys) (sets_at xs i f (omega (arith, l)))

set_at : (xs : List FieldData) (i : ℕ) (f : FieldData) → i < length xs → set xs i f ≡ take i xs ++ f ∷ drop (i + 1) xs
set_at xs i f l = sets_at xs i f l ∙ ap (λ k. take i xs ++ f ∷ drop k xs) (next i)

take_seen : (fs : List Field) (i : ℕ) → seen (take i fs) ≡ take i (seen fs)
take_seen [] zero = refl
take_seen [] (suc i) = refl
take_seen (f ∷ fs) zero = refl
take_seen (f ∷ fs) (suc i) = ap (λ gs. field_data f ∷ gs) (take_seen fs i)

drop_seen : (fs : List Field) (i : ℕ) → seen (drop i fs) ≡ drop i (seen fs)
drop_seen [] zero = refl
drop_seen [] (suc i) = refl
drop_seen (f ∷ fs) zero = refl
drop_seen (f ∷ fs) (suc i) = drop_seen fs i

pub within_list : (fs : List Field) (f : FieldData) (i : ℕ) → ReplacesAt (seen fs) f i → i < length fs
within_list fs f i h = omega (arith, h.within, length_seen fs)

pub within_end : (fs : List Field) (f : FieldData) (i : ℕ) → IsNewAt (seen fs) f i → i ≤ length fs
within_end fs f i h = omega (arith, h.within, length_seen fs)

pub replaced
    : (fs new : List Field) (f : Field) (i : ℕ) → ReplacesAt (seen fs) (field_data f) i → new ≡ set fs i f
    → seen new ≡ put_field (seen fs) (field_data f)
replaced fs new f i h e =
    ap seen e ∙ map-set field_data fs i f ∙ set_at (seen fs) i (field_data f) h.within ∙ sym h.is

pub inserted
    : (fs new : List Field) (f : Field) (i : ℕ) → IsNewAt (seen fs) (field_data f) i → new ≡ take i fs ++ f ∷ drop i fs
    → seen new ≡ put_field (seen fs) (field_data f)
inserted fs new f i h e =
    ap seen e ∙ map-append field_data (take i fs) (f ∷ drop i fs)
    ∙ ap (λ xs. xs ++ field_data f ∷ seen (drop i fs)) (take_seen fs i)
    ∙ ap (λ xs. take i (seen fs) ++ field_data f ∷ xs) (drop_seen fs i) ∙ sym h.is

-- ## Spreads

first_names
    : (ms : List Member) (i : ℕ) (m : Member) → i < length ms → m ≡ get_or ms i m
    → names_in (map member_data (drop i ms))
    ≡ map (λ (f : FieldData). f.name) (fields_in (member_data m)) ++ names_in (map member_data (drop (suc i) ms))
first_names [] i m l e = absurd (omega (arith, l))
first_names (x ∷ xs) zero m l e =
    map-append (λ (f : FieldData). f.name) (fields_in (member_data x)) (flat_map fields_in (map member_data xs))
    ∙ ap (λ (y : Member). map (λ (f : FieldData). f.name) (fields_in (member_data y)) ++ names_in (map member_data xs)) (sym e)
first_names (x ∷ xs) (suc i) m l e = first_names xs i m (omega (arith, l)) e

names_first
    : (ms : List Member) (i : ℕ) (m : Member) → i < length ms → m ≡ get_or ms i m
    → names_in (map member_data (drop i ms))
    ≡ map (λ (f : FieldData). f.name) (fields_in (member_data m)) ++ names_in (map member_data (drop (i + 1) ms))
names_first ms i m l e =
    first_names ms i m l e
    ∙ ap (λ k. map (λ (f : FieldData). f.name) (fields_in (member_data m)) ++ names_in (map member_data (drop k ms))) (next i)

pub spread_added
    : (ms : List Member) (i : ℕ) (m : Member) (old new named : List FieldData) (whole all : List MemberData)
    → i < length ms → m ≡ get_or ms i m
    → new ≡ old ++ map (spread_field all) (map (λ (f : FieldData). f.name) named) → named ≡ fields_in (member_data m)
    → all ≡ whole
    → new ++ map (spread_field whole) (names_in (map member_data (drop (i + 1) ms)))
    ≡ old ++ map (spread_field whole) (names_in (map member_data (drop i ms)))
spread_added ms i m old new named whole all l e is are same =
    let rest : List (List ℕ) = names_in (map member_data (drop (i + 1) ms)) in
    let names : List (List ℕ) = map (λ (f : FieldData). f.name) (fields_in (member_data m)) in
    ap (λ xs. xs ++ map (spread_field whole) rest)
    (is ∙ ap (λ xs. old ++ map (spread_field all) (map (λ (f : FieldData). f.name) xs)) are
    ∙ ap (λ a. old ++ map (spread_field a) names) same)
    ∙ append_assoc old (map (spread_field whole) names) (map (spread_field whole) rest)
    ∙ ap (λ xs. old ++ xs)
    (sym (ap (map (spread_field whole)) (names_first ms i m l e) ∙ map-append (spread_field whole) names rest))
