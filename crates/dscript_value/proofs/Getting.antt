-- Items of two lists one after another.
use Rattle.std.proofs.Common.{◌≡◌, ℕ, suc, zero, ◌+◌, List, [], ◌∷◌, ◌++◌, length, slice_get, ap, arith}

pub get_right : {X : Type 0} (xs ys : List X) (i n : ℕ) → i ≡ length xs + n → slice_get (xs ++ ys) i ≡ slice_get ys n
get_right [] ys i n e = ap (slice_get ys) (omega (arith, e))
get_right (x ∷ xs) ys zero n e = absurd (omega (arith, e))
get_right (x ∷ xs) ys (suc i) n e = get_right xs ys i n (omega (arith, e))
