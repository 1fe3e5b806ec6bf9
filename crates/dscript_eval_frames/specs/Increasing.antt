-- Numbers that ascend.
use Rattle.std.specs.Prelude.{ℕ, suc, Bool, true, false, nat_lt, if◌then◌else◌, List, [], ◌∷◌}

-- whether the first number is at least this one, and each other is greater than the one before it
abbrev pub rises : ℕ → List ℕ → Bool
rises least [] = true
rises least (n ∷ ns) = if nat_lt n least then false else rises (suc n) ns

-- whether each number is greater than the one before it
abbrev pub is_increasing : List ℕ → Bool
is_increasing ns = rises 0 ns
