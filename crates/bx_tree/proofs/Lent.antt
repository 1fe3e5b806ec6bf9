-- Lists of lent texts, gone through one text after the other.
use Rattle.std.proofs.Common.{◌≡◌, ℕ, ◌+◌, ◌<◌, zero, suc, List, [], ◌∷◌, length, drop, get_or, refl, ap, sym, ◌∙◌, add-one, arith}
use Rattle.std.specs.Borrow.{Bor}
use Rattle.bx_tree.specs.Lent.{texts_now}

pub texts_at : (lines : List (Bor (List ℕ))) (i : ℕ) (d : Bor (List ℕ)) → i < length lines → texts_now (drop i lines) ≡ (get_or lines i d).now ∷ texts_now (drop (i + 1) lines)
texts_at lines i d l = at lines i l ∙ ap (λ n. (get_or lines i d).now ∷ texts_now (drop n lines)) (sym (add-one i))
  where
    at : (xs : List (Bor (List ℕ))) (k : ℕ) → k < length xs → texts_now (drop k xs) ≡ (get_or xs k d).now ∷ texts_now (drop (suc k) xs)
    at [] k m = absurd (omega (arith, m))
    at (x ∷ xs) zero m = refl
    at (x ∷ xs) (suc k) m = at xs k (omega (arith, m))

pub drop_whole : (lines : List (Bor (List ℕ))) (i : ℕ) → length lines ≡ i → drop i lines ≡ []
drop_whole [] zero e = refl
drop_whole [] (suc i) e = absurd (omega (arith, e))
drop_whole (x ∷ xs) zero e = absurd (omega (arith, e))
drop_whole (x ∷ xs) (suc i) e = drop_whole xs i (omega (arith, e))
