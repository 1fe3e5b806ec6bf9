-- What follows a place in a list.
use Rattle.std.proofs.Common.{◌≡◌, ℕ, ◌+◌, zero, suc, List, [], ◌∷◌, length, drop, refl, ap, sym, ◌∙◌, arith, add-one}

drop_suc : (xs : List ℕ) (n x : ℕ) (rest : List ℕ) → drop n xs ≡ x ∷ rest → drop (suc n) xs ≡ rest
drop_suc [] zero x rest e = cc
drop_suc [] (suc n) x rest e = cc
drop_suc (y ∷ ys) zero x rest e = cc
drop_suc (y ∷ ys) (suc n) x rest e = drop_suc ys n x rest e

pub one_further : (xs : List ℕ) (n x : ℕ) (rest : List ℕ) → drop n xs ≡ x ∷ rest → rest ≡ drop (n + 1) xs
one_further xs n x rest e = sym (drop_suc xs n x rest e) ∙ ap (λ k. drop k xs) (sym (add-one n))

drop_none : (xs : List ℕ) (n : ℕ) → length (drop n xs) ≡ 0 → drop (suc n) xs ≡ drop n xs
drop_none [] zero e = refl
drop_none [] (suc n) e = refl
drop_none (y ∷ ys) zero e = absurd (omega (arith, e))
drop_none (y ∷ ys) (suc n) e = drop_none ys n e

pub none_further : (xs : List ℕ) (n : ℕ) → length (drop n xs) ≡ 0 → drop n xs ≡ drop (n + 1) xs
none_further xs n e = sym (drop_none xs n e) ∙ ap (λ k. drop k xs) (sym (add-one n))
