-- A header as contracts see it, and the bytes after it.
use Rattle.std.specs.Prelude.{◌≡◌, ◌≢◌, ℕ, List, ◌∷◌, ◌++◌, length, codes}
use Rattle.std.specs.List.{AllByRecursion}
use Rattle.bx_tree.specs.Bundle as bundles
use Rattle.bx_tree.specs.declared.header.Header.{Header}

-- the parts of a header, without their addresses
abbrev pub header_of : Header → bundles.Header
header_of h = record { digits = h.digits.now; path = h.path.now; rest = h.rest.now }

-- the text starts with this many bytes and a newline
abbrev pub StartsWithBytes : ℕ → List ℕ → Type 0
StartsWithBytes size text =
    (bytes more : List ℕ) × (length bytes ≡ size) × (text ≡ bytes ++ codes "\n" ++ more)

-- no byte of the text is this one
abbrev pub HasNo : ℕ → List ℕ → Type 0
HasNo byte text = AllByRecursion (λ b. b ≢ byte) text

-- the text is these parts with the byte between them, and the first part does not have it
abbrev pub IsSplitOnce : ℕ → List ℕ → List ℕ → List ℕ → Type 0
IsSplitOnce byte text before after = HasNo byte before × (text ≡ before ++ byte ∷ after)
