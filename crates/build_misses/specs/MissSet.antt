-- The processes whose runs a store would not spare.
use Rattle.std.specs.Prelude.{◌≡◌, ◌⊎◌, ℕ, ◌+◌, true, List, [], ◌∷◌, ◌++◌}
use Rattle.bx_tree.specs.Trees.{Files}
use Rattle.pip_model_types.specs.declared.pip.Pip.{Pip}
use Rattle.pip_model_types.specs.declared.pip.PipKind.{PipKind}
use Rattle.pip_model_types.specs.declared.pip.PipKind.TheVariants.{Process, Copy, Write, Seal}
use Rattle.bx_io.specs.Holdings.{Holdings}
use Rattle.two_phase_meaning.specs.Usable.{Usable}
use Rattle.one_thread.specs.OneThread.{Result, inputs_are_good, result_of}
use Rattle.retire_compared.specs.Compared.{desc_after, view_after}

-- a process for which nothing is usable
abbrev pub WorkMisses : List Pip → Files → ℕ → Holdings → List Result → ℕ → PipKind → Type 0
WorkMisses pips tree budget S results i (Process d) =
    Usable S (desc_after pips tree budget results d) (view_after pips tree results i d) → ⊥
WorkMisses pips tree budget S results i (Copy d) = ⊥
WorkMisses pips tree budget S results i (Write d) = ⊥
WorkMisses pips tree budget S results i (Seal d) = ⊥

-- that is not skipped
abbrev pub PipMisses : List Pip → Files → ℕ → Holdings → List Result → ℕ → PipKind → Type 0
PipMisses pips tree budget S results i kind =
    (inputs_are_good pips kind results ≡ true) × WorkMisses pips tree budget S results i kind

-- the numbers of those from pip i on, in order
abbrev pub MissesFrom : List Pip → Files → ℕ → Holdings → List Result → ℕ → List Pip → List ℕ → Type 0
MissesFrom pips tree budget S results i [] numbers = numbers ≡ []
MissesFrom pips tree budget S results i (pip ∷ left) numbers =
    (PipMisses pips tree budget S results i pip.kind
    × ((rest : List ℕ) × (numbers ≡ i ∷ rest)
    × MissesFrom pips tree budget S (results ++ result_of pips tree budget results i pip.kind ∷ []) (i + 1)
    left rest))
    ⊎ ((PipMisses pips tree budget S results i pip.kind → ⊥)
    × MissesFrom pips tree budget S (results ++ result_of pips tree budget results i pip.kind ∷ []) (i + 1)
    left numbers)

-- These are the numbers of the processes that the sequential build does not skip and for which the store has nothing
-- usable, with what they are and see in that build.
abbrev pub IsMissSet : List Pip → Files → ℕ → Holdings → List ℕ → Type 0
IsMissSet pips tree budget S numbers = MissesFrom pips tree budget S [] 0 pips numbers
