-- Sets of numbers kept as bits, 64 in a word.
use Rattle.std.specs.Prelude.{◌≡◌, ℕ, ◌/◌, ◌%◌, List, slice_index}
use Rattle.std.specs.Int.{bit_at}
use Rattle.pip_model.specs.declared.bits.TheConstants.{WORD_BITS}

-- the number is in the set
abbrev pub HasBit : List ℕ → ℕ → Type 0
HasBit words k = bit_at (slice_index words (k / WORD_BITS)) (k % WORD_BITS) ≡ 1
