-- A binary search in a list that rises finds an element just where it is in the list.
use Rattle.std.proofs.Common.{◌≡◌, ◌↔◌, ℕ, ◌+◌, List, length, get_or, IsTrue, Result, Ok, Err, refl, ap, sym, ◌∙◌, subst, inl, inr, arith}
use Rattle.std.specs.List.{Contains}
use Rattle.std.specs.List.Sorted.{IsBinarySearchResult, IsSearchInRange, IsSortedBy, IsStrictlySortedBy}
use Rattle.std.specs.Cmp.{IsTotalOrder}
use Rattle.std.specs.Ordering.{is_lt, ordering_reverse}
use Rattle.std.specs.Result.{is_ok}
use Rattle.std.specs.declared.cmp.Ordering.{Ordering}
use Rattle.std.specs.declared.cmp.Ordering.TheVariants.{Less, Equal, Greater}
use Rattle.std.proofs.lemmas.Bool.{cases_lt, false≢true}
use Rattle.std.proofs.lemmas.Cmp.{tied_itself}
use Rattle.std.proofs.lemmas.List.Sorted.{searchable_from_sorted}
use Rattle.std.proofs.lemmas.Map.Keys.{Less-from_sorted}

module _ {K : Type 0} {R : K → K → Ordering} (o : IsTotalOrder R) where
  sorted_from_rising : (xs : List K) → IsStrictlySortedBy R xs → IsSortedBy (λ a b. is_lt (R a b)) xs
  sorted_from_rising xs up k d low l =
      let less = Less-from_sorted R xs k (k + 1) d up (omega arith) l in
      ap is_lt (o.antisymm (get_or xs (k + 1) d) (get_or xs k d) ∙ ap ordering_reverse less)

  not_there : (y x : K) (p : Ordering) → (p ≡ Equal → ⊥) → R y x ≡ p → y ≡ x → ⊥
  not_there y x p n h e = n (sym h ∙ subst (λ z. R z x ≡ Equal) (sym e) (tied_itself o x))

  pub there_if_found : ((x y : K) → R x y ≡ Equal → x ≡ y) → (xs : List K) (x : K) (r : Result ℕ ℕ)
      → IsStrictlySortedBy R xs → IsSearchInRange r (length xs) → IsBinarySearchResult (λ y. R y x) xs r
      → IsTrue (is_ok r) ↔ Contains xs x
  there_if_found equal xs x (Ok i) up l h = (λ e. (i, l, equal (get_or xs i x) x (h x)), λ k. refl)
  there_if_found equal xs x (Err i) up l h =
      let parts = h (searchable_from_sorted o (λ (y : K). y) xs x (sorted_from_rising xs up)) in (
        λ e. absurd (false≢true e),
        λ k. elim (cases_lt k.0 i) [
          | inl low ↦ absurd (not_there (get_or xs k.0 x) x Less (λ e. cc) (parts.0 k.0 x (omega arith) low) k.2)
          | inr high ↦ absurd (not_there (get_or xs k.0 x) x Greater (λ e. cc) (parts.1 k.0 x high k.1) k.2)
        ],
      )
