-- The names under which a store holds bytes.
use Rattle.std.specs.Prelude.{◌≡◌, ◌≤◌, ◌⊎◌, ℕ, List, length, slice_index, drop, All}
use Rattle.bx_io.specs.declared.name.TheConstants.{NAME_LENGTH}

-- a lower-case hexadecimal digit: 0 to 9, or a to f
abbrev pub IsLowerHexDigit : ℕ → Type 0
IsLowerHexDigit c = ((48 ≤ c) × (c ≤ 57)) ⊎ ((97 ≤ c) × (c ≤ 102))

-- the letter of a kind of content: b for a blob, w for a list of selectors under a weak fingerprint, e for an
-- entry
abbrev pub IsKindLetter : ℕ → Type 0
IsKindLetter c = (c ≡ 98) ⊎ (c ≡ 119) ⊎ (c ≡ 101)

-- a name: the letter of a kind, a slash, and the digits of a digest
pub record IsName (text : List ℕ) : Type 0 where
  pub count : length text ≡ NAME_LENGTH
  pub kind : IsKindLetter (slice_index text 0)
  pub slash : slice_index text 1 ≡ 47
  pub digits : All IsLowerHexDigit (drop 2 text)
