-- Lists, as they are in memory.
use Rattle.std.proofs.Common.{◌≡◌, ℕ, ◌<◌, ◌+◌, List, ◌∷◌, suc, length, ap, arith}

-- a number of items so far, with those that are left
pub length_after : {X : Type 0} {x : X} {left rest : List X} {k : ℕ} (n : ℕ) → k ≡ n + length left → left ≡ x ∷ rest
    → k ≡ n + 1 + length rest
length_after {X} {x} {left} {rest} {k} n all split =
    let same : length left ≡ suc (length rest) = ap length split in omega (arith, all, same)

pub length_before : {X : Type 0} {x : X} {left rest : List X} {k : ℕ} (n : ℕ) → k ≡ n + length left → left ≡ x ∷ rest
    → n < k
length_before {X} {x} {left} {rest} {k} n all split =
    let same : length left ≡ suc (length rest) = ap length split in omega (arith, all, same)
