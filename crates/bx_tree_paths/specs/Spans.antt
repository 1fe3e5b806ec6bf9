-- Ranges of lists that rise by path, and what lies below a directory, by the bytes of texts.
use Rattle.std.specs.Prelude.{◌≡◌, ℕ, ◌≤◌, ◌++◌, true, false, List, length}
use Rattle.std.specs.List.{AllWithin}
use Rattle.bx_tree.specs.Paths.{Atoms, path_text}
use Rattle.bx_tree.specs.Ranges.{comes_before, prefix_below}

-- just the items from one place to before another are such
pub record IsSpanOf {X : Type 0} (P : X → Type 0) (items : List X) (from to : ℕ) : Type 0 where
  pub order : from ≤ to
  pub within : to ≤ length items
  pub inside : AllWithin P items from to
  pub before : AllWithin (λ x. P x → ⊥) items 0 from
  pub after : AllWithin (λ x. P x → ⊥) items to (length items)

-- the text of the path begins as those of the paths below the directory do
abbrev pub StartsBelow : Atoms → Atoms → Type 0
StartsBelow dir path = (rest : List ℕ) × (path_text path ≡ prefix_below dir ++ rest)

-- the text of the path comes before one text, and not before another
abbrev pub IsBetween : List ℕ → List ℕ → Atoms → Type 0
IsBetween low high path = (comes_before low path ≡ false) × (comes_before high path ≡ true)
