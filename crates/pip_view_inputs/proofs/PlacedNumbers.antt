-- Where a binary search finds the files of a pip.
use Rattle.std.proofs.Common.{inl, inr, ◌≡◌, ◌≢◌, ℕ, ◌<◌, ◌+◌, List, length, get_or, map, refl, sym, ◌∙◌, ap, subst, arith, Ok, Err, Result}
use Rattle.std.specs.declared.cmp.Ordering.{Ordering}
use Rattle.std.specs.declared.cmp.Ordering.TheVariants.{Less, Equal, Greater}
use Rattle.std.specs.List.{All, HoldsAt}
use Rattle.std.specs.List.Sorted.{IsBinarySearchResult, IsSearchInRange, IsSortedBy, IsStrictlyIncreasing}
use Rattle.std.specs.Option.{MatchOption}
use Rattle.std.specs.Ordering.{MatchOrdering, is_lt, nat_cmp, ordering_reverse}
use Rattle.std.specs.Result.{MatchResult, result_ok}
use Rattle.std.proofs.lemmas.Bool.{cases_lt}
use Rattle.std.proofs.lemmas.Cmp.{nat_cmp_total, ranked, tied_itself}
use Rattle.std.proofs.lemmas.List.{get_or-map, length-map}
use Rattle.std.proofs.lemmas.List.Sorted.{searchable_from_sorted}
use Rattle.std.proofs.lemmas.Map.Keys.{Less-from_sorted, sorted_from_strictly_increasing}
use Rattle.pip_view_inputs.specs.declared.inputs.MadeBy.{MadeBy}

abbrev number : MadeBy → ℕ
number m = m.pip

-- what rises does not fall
sorted_numbers : (made : List MadeBy) → IsStrictlyIncreasing (map number made) → IsSortedBy (λ (a b : MadeBy). is_lt (nat_cmp a.pip b.pip)) made
sorted_numbers made up k d low l =
    let in' : k + 1 < length (map number made) = omega (arith, l, length-map made number) in
    let rises = Less-from_sorted nat_cmp (map number made) k (k + 1) 0 (sorted_from_strictly_increasing (map number made) up) (omega arith) in' in
    let less = rw (get_or-map number made k d 0 (omega arith), get_or-map number made (k + 1) d 0 l) at rises in
    ap is_lt (nat_cmp_total.antisymm (get_or made (k + 1) d).pip (get_or made k d).pip ∙ ap ordering_reverse less)

equal_number : (x y : ℕ) → nat_cmp x y ≡ Equal → x ≡ y
equal_number x y e = subst (λ o. MatchOrdering o (x < y) (x ≡ y) (y < x)) e (ranked x y (nat_cmp x y) refl)

not_level : (x y : ℕ) (o : Ordering) → (o ≡ Equal → ⊥) → nat_cmp x y ≡ o → x ≡ y → ⊥
not_level x y o n h e = n (sym h ∙ subst (λ z. nat_cmp x z ≡ Equal) e (tied_itself nat_cmp_total x))

pub place_from_search : (made : List MadeBy) (j : ℕ) (r : Result ℕ ℕ) → IsStrictlyIncreasing (map (λ (m : MadeBy). m.pip) made)
    → IsSearchInRange r (length made) → IsBinarySearchResult (λ (m : MadeBy). nat_cmp m.pip j) made r
    → MatchResult r (λ i. (i < length made) × HoldsAt (λ (m : MadeBy). m.pip ≡ j) made i) (λ i. All (λ (m : MadeBy). m.pip ≢ j) made)
place_from_search made j (Ok i) up l h = (l, λ d. equal_number (get_or made i d).pip j (h d))
place_from_search made j (Err i) up l h =
    let parts = h (searchable_from_sorted nat_cmp_total number made j (sorted_numbers made up)) in
    λ k d in'. elim (cases_lt k i) [
      | inl low ↦ not_level (get_or made k d).pip j Less (λ e. cc) (parts.0 k d (omega arith) low)
      | inr high ↦ not_level (get_or made k d).pip j Greater (λ e. cc) (parts.1 k d high in')
    ]

pub place_if_found : (made : List MadeBy) (j : ℕ) (r : Result ℕ ℕ)
    → MatchResult r (λ i. (i < length made) × HoldsAt (λ (m : MadeBy). m.pip ≡ j) made i) (λ i. All (λ (m : MadeBy). m.pip ≢ j) made)
    → MatchOption (result_ok r) (All (λ (m : MadeBy). m.pip ≢ j) made) (λ i. (i < length made) × HoldsAt (λ (m : MadeBy). m.pip ≡ j) made i)
place_if_found made j (Ok i) h = h
place_if_found made j (Err i) h = h
