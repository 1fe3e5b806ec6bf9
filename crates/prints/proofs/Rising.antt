-- A list rises step by step exactly where it is strictly sorted; and where it does not fall, exactly where it is sorted.
use Rattle.std.proofs.Common.{◌≡◌, ℕ, zero, suc, ◌+◌, ◌<◌, Bool, true, false, not, ◌&&◌, List, [], ◌∷◌, length, map, get_or, refl, ap, sym, ◌∙◌, subst, arith}
use Rattle.std.specs.Cmp.{IsTotalOrder}
use Rattle.std.specs.List.{AllByRecursion, IsAllAdjacentAnswer}
use Rattle.std.specs.List.Sorted.{IsSortedBy, IsStrictlySortedBy}
use Rattle.std.specs.Ordering.{is_lt}
use Rattle.std.specs.declared.cmp.Ordering.{Ordering}
use Rattle.std.specs.declared.cmp.Ordering.TheVariants.{Less}
use Rattle.std.proofs.lemmas.Bool.{and_from, and_parts, not-true}
use Rattle.bx_tree.proofs.AncestorSearch.{less_from_is_lt}
use Rattle.prints.specs.Lines.{rises}

module _ {X K : Type 0} {R : K → K → Ordering} (order : IsTotalOrder R) (key : X → K) where
  all_above : (k l : K) (rest : List K) → R k l ≡ Less → AllByRecursion (λ q. R l q ≡ Less) rest → AllByRecursion (λ q. R k q ≡ Less) rest
  all_above k l [] e h = tt
  all_above k l (q ∷ rest) e h = (order.trans k l q e h.0, all_above k l rest e h.1)

  pub rising_sorted : (xs : List X) → rises (λ a b. is_lt (R (key a) (key b))) xs ≡ true → IsStrictlySortedBy R (map key xs)
  unfolding IsStrictlySortedBy
  rising_sorted [] e = tt
  rising_sorted (x ∷ []) e = (tt, tt)
  rising_sorted (x ∷ y ∷ rest) e =
      let parts = and_parts (is_lt (R (key x) (key y))) (rises (λ a b. is_lt (R (key a) (key b))) (y ∷ rest)) e in
      let less = less_from_is_lt (R (key x) (key y)) parts.0 in
      let more = rising_sorted (y ∷ rest) parts.1 in
      ((less, all_above (key x) (key y) (map key rest) less more.0), more)

  pub sorted_rising : (xs : List X) → IsStrictlySortedBy R (map key xs) → rises (λ a b. is_lt (R (key a) (key b))) xs ≡ true
  unfolding IsStrictlySortedBy
  sorted_rising [] h = refl
  sorted_rising (x ∷ []) h = refl
  sorted_rising (x ∷ y ∷ rest) h =
      and_from (is_lt (R (key x) (key y))) (rises (λ a b. is_lt (R (key a) (key b))) (y ∷ rest)) (ap is_lt h.0.0) (sorted_rising (y ∷ rest) h.1)

-- ## Sorted, with equal elements

module _ {X : Type 0} (lt : X → X → Bool) where
  step_by_step : (xs : List X) → rises (λ a b. not (lt b a)) xs ≡ true → (k : ℕ) (d : X) → k + 1 < length xs → lt (get_or xs (k + 1) d) (get_or xs k d) ≡ false
  step_by_step [] e k d l = absurd (omega (arith, l))
  step_by_step (x ∷ []) e k d l = absurd (omega (arith, l))
  step_by_step (x ∷ y ∷ rest) e zero d l = not-true (lt y x) (and_parts (not (lt y x)) (rises (λ a b. not (lt b a)) (y ∷ rest)) e).0
  step_by_step (x ∷ y ∷ rest) e (suc k) d l =
      subst (λ n. lt (get_or (x ∷ y ∷ rest) n d) (get_or (y ∷ rest) k d) ≡ false) (next k)
      (step_by_step (y ∷ rest) (and_parts (not (lt y x)) (rises (λ a b. not (lt b a)) (y ∷ rest)) e).1 k d (omega (arith, l)))
    where
      next : (k : ℕ) → suc (k + 1) ≡ suc k + 1
      next k = omega arith

  pub rising_sorted_by : (xs : List X) → rises (λ a b. not (lt b a)) xs ≡ true → IsSortedBy lt xs
  rising_sorted_by xs e = λ k d low l. step_by_step xs e k d l

  pub sorted_by_rising : (xs : List X) → IsSortedBy lt xs → rises (λ a b. not (lt b a)) xs ≡ true
  sorted_by_rising [] h = refl
  sorted_by_rising (x ∷ []) h = refl
  sorted_by_rising (x ∷ y ∷ rest) h =
      and_from (not (lt y x)) (rises (λ a b. not (lt b a)) (y ∷ rest)) (ap not (h 0 x (omega arith) (omega arith)))
      (sorted_by_rising (y ∷ rest) (λ k d low l. tail k d l))
    where
      tail : (k : ℕ) (d : X) → k + 1 < length (y ∷ rest) → lt (get_or (y ∷ rest) (k + 1) d) (get_or (y ∷ rest) k d) ≡ false
      tail k d l =
          let next : suc k + 1 ≡ suc (k + 1) = omega arith in
          subst (λ n. lt (get_or (x ∷ y ∷ rest) n d) (get_or (y ∷ rest) k d) ≡ false) next (h (suc k) d (omega arith) (omega (arith, l)))

-- ## What a test of neighbours answers

module _ {X : Type 0} (e : X → X → Bool) where
  all_steps : (xs : List X) → ((k : ℕ) (d : X) → k + 1 < length xs → true ≡ e (get_or xs k d) (get_or xs (k + 1) d)) → rises e xs ≡ true
  all_steps [] h = refl
  all_steps (x ∷ []) h = refl
  all_steps (x ∷ y ∷ rest) h = and_from (e x y) (rises e (y ∷ rest)) (sym (h 0 x (omega arith))) (all_steps (y ∷ rest) tail)
    where
      tail : (k : ℕ) (d : X) → k + 1 < length (y ∷ rest) → true ≡ e (get_or (y ∷ rest) k d) (get_or (y ∷ rest) (k + 1) d)
      tail k d l =
          let next : suc k + 1 ≡ suc (k + 1) = omega arith in
          subst (λ n. true ≡ e (get_or (y ∷ rest) k d) (get_or (x ∷ y ∷ rest) n d)) next (h (suc k) d (omega (arith, l)))

  a_step : (xs : List X) (k : ℕ) → k + 1 < length xs → ((d : X) → false ≡ e (get_or xs k d) (get_or xs (k + 1) d)) → rises e xs ≡ false
  a_step [] k l h = absurd (omega (arith, l))
  a_step (x ∷ []) k l h = absurd (omega (arith, l))
  a_step (x ∷ y ∷ rest) zero l h = ap (λ b. b && rises e (y ∷ rest)) (sym (h x))
  a_step (x ∷ y ∷ rest) (suc k) l h =
      ap (λ b. e x y && b) (a_step (y ∷ rest) k (omega (arith, l)) tail) ∙ both (e x y)
    where
      tail : (d : X) → false ≡ e (get_or (y ∷ rest) k d) (get_or (y ∷ rest) (k + 1) d)
      tail d =
          let next : suc k + 1 ≡ suc (k + 1) = omega arith in
          subst (λ n. false ≡ e (get_or (y ∷ rest) k d) (get_or (x ∷ y ∷ rest) n d)) next (h d)

      both : (b : Bool) → (b && false) ≡ false
      both true = refl
      both false = refl

  pub neighbours_rise : (xs : List X) (r : Bool) → IsAllAdjacentAnswer (λ x y b. b ≡ e x y) xs r → r ≡ rises e xs
  neighbours_rise xs true h = sym (all_steps xs (λ k d l. h k d l))
  neighbours_rise xs false h = sym (a_step xs h.0 h.1 h.2)
