-- Places in a folder, and which of them lie below which.
use Rattle.std.specs.Prelude.{◌≡◌, ℕ, Bool, true, false, ◌==◌, ◌&&◌, List, [], ◌∷◌, ◌⊎◌, Contains, map}
use Rattle.std.specs.Borrow.{Bor}
use Rattle.bx_tree.specs.Paths.{TextGoesOn}

-- The place is the other or lies below it. The text of a place is the names from the folder down, joined by
-- `/`; the folder itself is written `.`, and is no place in it.
abbrev pub IsWithin : List ℕ → List ℕ → Type 0
IsWithin place top = (place ≡ top) ⊎ TextGoesOn top place

-- neither place is the other or lies below it
abbrev pub IsApart : List ℕ → List ℕ → Type 0
IsApart place other = (¬ IsWithin place other) × (¬ IsWithin other place)

-- whether the place is the other or lies below it
abbrev pub is_within : List ℕ → List ℕ → Bool
is_within [] [] = true
is_within (b ∷ bs) [] = b == 47
is_within [] (t ∷ ts) = false
is_within (b ∷ bs) (t ∷ ts) = b == t && is_within bs ts

-- the place is one of these, or lies below one
abbrev pub IsLeftOut : List (List ℕ) → List ℕ → Type 0
IsLeftOut tops place = (top : List ℕ) × Contains tops top × IsWithin place top
