-- How a text is looked for in another: it is moved along by the periods of what agrees.
use Rattle.std.proofs.Common.{◌≡◌, ◌≢◌, ℕ, zero, suc, ◌+◌, ◌-◌, ◌<◌, ◌≤◌, Bool, true, false, cond, nat_eq, List, [], ◌∷◌, ◌++◌, length, drop, get_or, refl, ap, sym, ◌∙◌, subst, arith, Option, Some, None, inl, inr}
use Rattle.std.specs.Prelude.{option_map}
use Rattle.std.specs.List.{starts_with}
use Rattle.std.proofs.lemmas.Bool.{cases_Bool, cases_order}
use Rattle.std.proofs.lemmas.Bool.Decides.{Decides-eqb}
use Rattle.std.proofs.lemmas.List.Prefix.{front_fits, front_from_reads, front_reads}
use Rattle.std.proofs.lemmas.Slice.Eq.{starts_is}
use Rattle.dscript_sdk_members.specs.FirstPlaces.{first_place}
use Rattle.dscript_sdk_members.specs.Periods.{IsLeastPeriod}

-- the other text occurs at a place
pub record OccursAt (text other : List ℕ) (place : ℕ) : Type 0 where
  pub fits : place + length other ≤ length text
  pub same : (j : ℕ) → j < length other → get_or text (place + j) 0 ≡ get_or other j 0

-- A prefix of the other text, of this length, is at a place, and the whole text at no earlier place.
pub record Reaches (text other : List ℕ) (place known : ℕ) : Type 0 where
  pub within : place + known ≤ length text
  pub short : known ≤ length other
  pub same : (j : ℕ) → j < known → get_or text (place + j) 0 ≡ get_or other j 0
  pub none : (q : ℕ) → q < place → OccursAt text other q → ⊥

below_next : (P : ℕ → Type 0) (n : ℕ) → ((k : ℕ) → k < n → P k) → P n → (k : ℕ) → k < n + 1 → P k
below_next P n below here k l = elim (cases_order k n) [
  | inl is ↦ subst P (sym is) here
  | inr other ↦ elim other [ inl less ↦ below k less | inr more ↦ absurd (omega arith) ]
]

pub at_start : (text other : List ℕ) → Reaches text other 0 0
at_start text other = record {
  within = omega arith;
  short = omega arith;
  same = λ j k. absurd (omega arith);
  none = λ q k. absurd (omega arith);
}

pub byte_more
    : (text other : List ℕ) (place known : ℕ) → Reaches text other place known → place + known < length text → known < length other
    → get_or text (place + known) 0 ≡ get_or other known 0 → Reaches text other place (known + 1)
byte_more text other place known h l m e = record {
  within = omega arith;
  short = omega arith;
  same = below_next (λ j. get_or text (place + j) 0 ≡ get_or other j 0) known h.same e;
  none = h.none;
}

-- the first byte differs
pub place_more
    : (text other : List ℕ) (place known : ℕ) → Reaches text other place known → place + known < length text → known < length other
    → known ≡ 0 → get_or text (place + known) 0 ≢ get_or other known 0 → Reaches text other (place + 1) known
place_more text other place known h l m zero_is differs = record {
  within = omega arith;
  short = h.short;
  same = λ j k. absurd (omega arith);
  none = below_next (λ q. OccursAt text other q → ⊥) place h.none (λ s. differs (s.same known m));
}

-- a later byte differs
pub moved
    : (text other : List ℕ) (place known shift : ℕ) → Reaches text other place known → known < length other
    → get_or text (place + known) 0 ≢ get_or other known 0 → IsLeastPeriod other known shift
    → Reaches text other (place + shift) (known - shift)
moved text other place known shift h m differs p = record {
  within = let w = p.within in let x = h.within in omega arith;
  short = let x = h.short in omega arith;
  same = λ j k. let w = p.within in
      let s = p.some in
      ap (λ i. get_or text i 0) (the_place j) ∙ h.same (shift + j) (omega arith) ∙ p.period.same j (omega arith);
  none = by_order;
}
  where
    the_place : (j : ℕ) → place + shift + j ≡ place + (shift + j)
    the_place j = omega arith

    further : (q d : ℕ) → q ≡ place + d → 0 < d → d < shift → OccursAt text other q → ⊥
    further q d is some less s =
        p.least d some less (record {
          same = λ j k.
              sym (h.same (d + j) k) ∙ ap (λ i. get_or text i 0) (the_shift j) ∙ s.same j (omega arith);
        })
      where
        the_shift : (j : ℕ) → place + (d + j) ≡ q + j
        the_shift j = omega arith

    by_order : (q : ℕ) → q < place + shift → OccursAt text other q → ⊥
    by_order q less s = elim (cases_order q place) [
      | inl is ↦ differs (subst (λ i. get_or text (i + known) 0 ≡ get_or other known 0) is (s.same known m))
      | inr apart ↦ elim apart [
        | inl before ↦ h.none q before s
        | inr after ↦ further q (q - place) (omega arith) (omega arith) (omega arith) s
      ]
    ]

-- ## The first place

begins : (text other : List ℕ) → OccursAt text other 0 → starts_with nat_eq text other ≡ true
begins text other h =
    (starts_is Decides-eqb text other (starts_with nat_eq text other) refl).1 (drop (length other) text)
    (front_from_reads 0 text other (let f = h.fits in omega arith) (λ i l. ap (λ j. get_or text j 0) (from_zero i) ∙ h.same i l))
  where
    from_zero : (i : ℕ) → i ≡ 0 + i
    from_zero i = omega arith

starts_here : (text other : List ℕ) → starts_with nat_eq text other ≡ true → OccursAt text other 0
starts_here text other e =
    let cut = (starts_is Decides-eqb text other (starts_with nat_eq text other) refl).0 e in
    let fits = front_fits text other (drop (length other) text) cut in
    record {
      fits = omega arith;
      same = λ j l. ap (λ i. get_or text i 0) (to_zero j) ∙ front_reads 0 text other (drop (length other) text) cut j l;
    }
  where
    to_zero : (j : ℕ) → 0 + j ≡ j
    to_zero j = omega arith

not_here : (text other : List ℕ) → (OccursAt text other 0 → ⊥) → starts_with nat_eq text other ≡ false
not_here text other n = elim (cases_Bool (starts_with nat_eq text other)) [
  | inl e ↦ absurd (n (starts_here text other e))
  | inr e ↦ e
]

-- one byte further in a text that is one byte longer
further_in : (b : ℕ) (bs other : List ℕ) (q : ℕ) → OccursAt bs other q → OccursAt (b ∷ bs) other (suc q)
further_in b bs other q h = record {
  fits = let f = h.fits in omega arith;
  same = λ j l. ap (λ i. get_or (b ∷ bs) i 0) (shift j) ∙ h.same j l;
}
  where
    shift : (j : ℕ) → suc q + j ≡ suc (q + j)
    shift j = omega arith

less_far : (b : ℕ) (bs other : List ℕ) (q : ℕ) → OccursAt (b ∷ bs) other (suc q) → OccursAt bs other q
less_far b bs other q h = record {
  fits = let f = h.fits in omega arith;
  same = λ j l. ap (λ i. get_or (b ∷ bs) i 0) (shift j) ∙ h.same j l;
}
  where
    shift : (j : ℕ) → suc (q + j) ≡ suc q + j
    shift j = omega arith

pub found : (other text : List ℕ) (q : ℕ) → OccursAt text other q → ((r : ℕ) → r < q → OccursAt text other r → ⊥)
    → first_place other text ≡ Some q
found other [] zero h none = ap (λ b. cond b (Some 0) None) (begins [] other h)
found other [] (suc q) h none = absurd (let f = h.fits in omega arith)
found other (b ∷ bs) zero h none =
    ap (λ t. cond t (Some 0) (option_map suc (first_place other bs))) (begins (b ∷ bs) other h)
found other (b ∷ bs) (suc q) h none =
    ap (λ t. cond t (Some 0) (option_map suc (first_place other bs))) (not_here (b ∷ bs) other (none 0 (omega arith)))
    ∙ ap (option_map suc) (found other bs q (less_far b bs other q h)
    (λ r l s. none (suc r) (omega arith) (further_in b bs other r s)))

pub not_found : (other text : List ℕ) → ((q : ℕ) → OccursAt text other q → ⊥) → first_place other text ≡ None
not_found other [] n = ap (λ b. cond b (Some 0) None) (not_here [] other (n 0))
not_found other (b ∷ bs) n =
    ap (λ t. cond t (Some 0) (option_map suc (first_place other bs))) (not_here (b ∷ bs) other (n 0))
    ∙ ap (option_map suc) (not_found other bs (λ q s. n (suc q) (further_in b bs other q s)))

-- the whole of the other text occurs there
pub found_here : (text other : List ℕ) (place known : ℕ) → Reaches text other place known → length other ≤ known
    → first_place other text ≡ Some place
found_here text other place known h l =
    found other text place (record {
      fits = let w = h.within in let x = h.short in omega arith;
      same = λ j k. h.same j (omega arith);
    }) h.none

-- the other text is too long for any later place
pub too_long_there
    : (text other : List ℕ) (place known : ℕ) → Reaches text other place known → known < length other → length text ≤ place + known
    → first_place other text ≡ None
too_long_there text other place known h m l = not_found other text (λ q s. elim (cases_order q place) [
  | inl is ↦ absurd (let f = s.fits in omega arith)
  | inr apart ↦ elim apart [ inl before ↦ h.none q before s | inr after ↦ absurd (let f = s.fits in omega arith) ]
])
