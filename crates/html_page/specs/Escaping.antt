-- How a text of a user stands in a page.
use Rattle.std.specs.Prelude.{◌≡◌, ◌≢◌, ◌⊎◌, ℕ, nat_le, ◌&&◌, ◌==◌, if◌then◌else◌, List, [], ◌∷◌, ◌++◌, codes}
use Rattle.std.specs.List.{flat_map}

-- ## Writing

-- a byte as it is shown: a printable character of ASCII as it is, and any other as `?`
abbrev pub shown_byte : ℕ → ℕ
shown_byte b = if nat_le 32 b && nat_le b 126 then b else 63

-- a byte as it is written: the five characters that have a meaning in a page by their references
abbrev pub escaped_byte : ℕ → List ℕ
escaped_byte b =
    if b == 38 then codes "&amp;" else
    (if b == 60 then codes "&lt;" else
    (if b == 62 then codes "&gt;" else
    (if b == 34 then codes "&quot;" else (if b == 39 then codes "&#39;" else shown_byte b ∷ []))))

abbrev pub escaped : List ℕ → List ℕ
escaped text = flat_map escaped_byte text

-- ## Reading

-- How a character is spelled in the text of a page and in a value (HTML, 13.5): by its reference, and each one but `&`
-- as itself.
abbrev pub StandsForByte : List ℕ → ℕ → Type 0
StandsForByte text b =
    ((text ≡ b ∷ []) × (b ≢ 38))
    ⊎ ((text ≡ codes "&amp;") × (b ≡ 38))
    ⊎ ((text ≡ codes "&lt;") × (b ≡ 60))
    ⊎ ((text ≡ codes "&gt;") × (b ≡ 62))
    ⊎ ((text ≡ codes "&quot;") × (b ≡ 34))
    ⊎ ((text ≡ codes "&#39;") × (b ≡ 39))

-- the text spells these characters one after the other
abbrev pub StandsFor : List ℕ → List ℕ → Type 0
StandsFor text [] = text ≡ []
StandsFor text (b ∷ bs) =
    (first rest : List ℕ) × StandsForByte first b × (text ≡ first ++ rest) × StandsFor rest bs
