-- Lists that rise by path, and where texts belong in them.
use Rattle.std.specs.Prelude.{◌≡◌, ◌≢◌, ℕ, ◌<◌, ◌≤◌, Bool, true, false, List, length, All}
use Rattle.std.specs.List.{HoldsAt}
use Rattle.std.specs.List.Sorted.{IsPartitionPoint, IsPartitionedBy}
use Rattle.bx_tree.specs.Paths.{Atoms, path_text}
use Rattle.bx_tree.specs.Ranges.{comes_before}

-- the items rise by the texts of their paths: those whose paths come before a text come first
abbrev pub RiseByText : {X : Type 0} → (X → Atoms) → List X → Type 0
RiseByText path items = (text : List ℕ) → IsPartitionedBy (λ x. comes_before text (path x)) items

-- Where a text belongs: the items before the place have paths that come before it, the others have not. Whether
-- the item at the place has the path with this text; if it has not, none has.
pub record IsSlotOf {X : Type 0} (path : X → Atoms) (text : List ℕ) (items : List X) (place : ℕ) (is_there : Bool)
    : Type 0 where
  pub within : place ≤ length items
  pub point : IsPartitionPoint (λ x. comes_before text (path x) ≡ true) (λ x. comes_before text (path x) ≡ false) items place
  pub there : is_there ≡ true → (place < length items) × HoldsAt (λ x. path_text (path x) ≡ text) items place
  pub not_there : is_there ≡ false → All (λ x. path_text (path x) ≢ text) items
