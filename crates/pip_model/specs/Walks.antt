-- Walks along edges between numbers.
use Rattle.std.specs.Prelude.{ℕ, List, Contains, IsSomeAnd, slice_get}

-- a walk of one edge or more
pub data Walk (Edge : ℕ → ℕ → Type 0) : ℕ → ℕ → Type 0 where
  One : (i j : ℕ) → Edge i j → Walk Edge i j
  Step : (i j k : ℕ) → Edge i j → Walk Edge j k → Walk Edge i k

-- the edges that lists of targets give: number i has an edge to each number of list i
abbrev pub ListEdge : List (List ℕ) → ℕ → ℕ → Type 0
ListEdge lists i j = IsSomeAnd (slice_get lists i) (λ targets. Contains targets j)
