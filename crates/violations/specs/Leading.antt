-- Whether walks along edges lead from one pip to another, as a computation.
use Rattle.std.specs.Prelude.{◌≡◌, ◌↔◌, ℕ, zero, suc, Bool, true, false, ◌||◌, ◌==◌, List, [], length}
use Rattle.std.specs.Prelude.{Option, Some, None, slice_get}
use Rattle.std.specs.List.{list_any}
use Rattle.pip_model_types.specs.Makers.{IsPipList}
use Rattle.pip_model_types.specs.declared.pip.Pip.{Pip}
use Rattle.pip_model.specs.Edges.{Leads, targets}

-- the pips for which the pip waits
abbrev pub targets_at : List Pip → Option Pip → List ℕ
targets_at pips None = []
targets_at pips (Some pip) = targets pips pip.kind

-- whether a walk of one edge or more, and of at most this many, goes from i to k
abbrev pub leads_within : ℕ → List Pip → ℕ → ℕ → Bool
leads_within zero pips i k = false
leads_within (suc edges) pips i k =
    list_any (λ j. j == k || leads_within edges pips j k) (targets_at pips (slice_get pips i))

-- Whether edges lead from i to k. No walk has more edges than there are pips, as each goes to a smaller
-- number.
abbrev pub leads : List Pip → ℕ → ℕ → Bool
leads pips i k = leads_within (length pips) pips i k

-- the computation is the walk of edges
abbrev pub LeadsAreWalks : Type 0
LeadsAreWalks = (pips : List Pip) → IsPipList pips → (i k : ℕ) → (leads pips i k ≡ true) ↔ Leads pips i k
