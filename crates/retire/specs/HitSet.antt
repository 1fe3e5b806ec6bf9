-- The processes whose runs a store would spare.
use Rattle.std.specs.Prelude.{◌≡◌, ◌⊎◌, ℕ, ◌+◌, true, List, [], ◌∷◌, ◌++◌}
use Rattle.bx_tree.specs.Trees.{Files}
use Rattle.pip_model_types.specs.declared.pip.Pip.{Pip}
use Rattle.pip_model_types.specs.declared.pip.PipKind.{PipKind}
use Rattle.pip_model_types.specs.declared.pip.PipKind.TheVariants.{Process, Copy, Write, Seal}
use Rattle.bx_io.specs.Holdings.{Holdings}
use Rattle.two_phase_meaning.specs.Usable.{Usable}
use Rattle.one_thread.specs.OneThread.{Result, inputs_are_good, result_of}
use Rattle.retire_compared.specs.Compared.{desc_after, view_after}

-- a process for which something is usable
abbrev pub WorkHits : List Pip → Files → ℕ → Holdings → List Result → ℕ → PipKind → Type 0
WorkHits pips tree budget S results i (Process d) =
    Usable S (desc_after pips tree budget results d) (view_after pips tree results i d)
WorkHits pips tree budget S results i (Copy d) = ⊥
WorkHits pips tree budget S results i (Write d) = ⊥
WorkHits pips tree budget S results i (Seal d) = ⊥

-- that is not skipped
abbrev pub PipHits : List Pip → Files → ℕ → Holdings → List Result → ℕ → PipKind → Type 0
PipHits pips tree budget S results i kind =
    (inputs_are_good pips kind results ≡ true) × WorkHits pips tree budget S results i kind

-- the numbers of those from pip i on, in order
abbrev pub HitsFrom : List Pip → Files → ℕ → Holdings → List Result → ℕ → List Pip → List ℕ → Type 0
HitsFrom pips tree budget S results i [] numbers = numbers ≡ []
HitsFrom pips tree budget S results i (pip ∷ left) numbers =
    (PipHits pips tree budget S results i pip.kind
    × ((rest : List ℕ) × (numbers ≡ i ∷ rest)
    × HitsFrom pips tree budget S (results ++ result_of pips tree budget results i pip.kind ∷ []) (i + 1)
    left rest))
    ⊎ ((PipHits pips tree budget S results i pip.kind → ⊥)
    × HitsFrom pips tree budget S (results ++ result_of pips tree budget results i pip.kind ∷ []) (i + 1)
    left numbers)

-- These are the numbers of the processes that are not skipped and for which the store has something usable,
-- with what they are and see in the sequential build. Whether something is usable is not decided here, so
-- they are given as a list that a build may turn out to have.
abbrev pub IsHitSet : List Pip → Files → ℕ → Holdings → List ℕ → Type 0
IsHitSet pips tree budget S numbers = HitsFrom pips tree budget S [] 0 pips numbers
