-- Lines one after another.
use Rattle.std.specs.Prelude.{ℕ, zero, suc, Bool, true, ◌&&◌, List, [], ◌∷◌, length, Some, None, is_some}
use Rattle.std.specs.Prelude.{if◌then◌else◌}
use Rattle.observed.specs.Texts.{after_prefix}
use Rattle.prints.specs.Reading.{Taken, ◌>>=◌}

-- whether a text begins with a word
abbrev pub begins : List ℕ → List ℕ → Bool
begins word text = is_some (after_prefix word text)

-- the lines at the start of a text, up to a number of them; a line is not empty, so a number of the text's
-- length is enough
unfoldable pub some_lines : {X : Type 0} → (List ℕ → Bool) → (List ℕ → Taken X) → ℕ → List ℕ → Taken (List X)
some_lines starts line zero text = if starts text then None else Some ([], text)
some_lines starts line (suc most) text =
    if starts text
    then (line text >>= λ first. some_lines starts line most first.1 >>= λ more.
    Some (first.0 ∷ more.0, more.1))
    else Some ([], text)

-- the lines at the start of a text
abbrev pub lines_at : {X : Type 0} → (List ℕ → Bool) → (List ℕ → Taken X) → List ℕ → Taken (List X)
lines_at starts line text = some_lines starts line (length text) text

-- whether of each two elements that are next to each other the first comes before the second
abbrev pub rises : {X : Type 0} → (X → X → Bool) → List X → Bool
rises before [] = true
rises before (x ∷ []) = true
rises before (x ∷ y ∷ rest) = before x y && rises before (y ∷ rest)
