-- The slots that are left, one after another.
use Rattle.std.proofs.Common.{◌≡◌, ℕ, zero, suc, ◌+◌, List, [], ◌∷◌, ◌++◌, drop, refl, ap, sym, ◌∙◌, arith}
use Rattle.sched_board_slots.specs.Slots.{slot_at}
use Rattle.sched_board_slots.specs.declared.held.Held.{Held}

pub front_is : (xs : List Held) (n : ℕ) (x : Held) (rest : List Held) → drop n xs ≡ x ∷ rest → slot_at xs n ≡ x
front_is [] zero x rest e = absurd cc
front_is [] (suc n) x rest e = absurd cc
front_is (y ∷ ys) zero x rest e = let same : y ≡ x = cc in same
front_is (y ∷ ys) (suc n) x rest e = front_is ys n x rest e

pub rest_is : (xs : List Held) (n : ℕ) (x : Held) (rest : List Held) → drop n xs ≡ x ∷ rest → rest ≡ drop (n + 1) xs
rest_is [] zero x rest e = absurd cc
rest_is [] (suc n) x rest e = absurd cc
rest_is (y ∷ ys) zero x rest e = let same : ys ≡ rest = cc in sym same
rest_is (y ∷ ys) (suc n) x rest e =
    let next : suc (n + 1) ≡ suc n + 1 = omega arith in
    rest_is ys n x rest e ∙ ap (λ k. drop k (y ∷ ys)) next

pub no_numbers : (first rest : List ℕ) → [] ≡ first ++ rest → first ≡ []
no_numbers [] rest e = refl
no_numbers (x ∷ xs) rest e = absurd cc
