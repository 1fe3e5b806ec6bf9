-- Where functions stand in a table.
use Rattle.std.proofs.Common.{◌≡◌, ℕ, ◌+◌, List, [], ◌∷◌, ◌++◌, length, Some, subst, arith}
use Rattle.std.specs.Prelude.{slice_get}
use Rattle.dscript_program.specs.ProgramData.{FunctionData}

-- the table has these functions from the number on
unfoldable pub At : List FunctionData → ℕ → List FunctionData → Type 0
At table n [] = Unit {0}
At table n (f ∷ fs) = (slice_get table n ≡ Some f) × At table (n + 1) fs

pub at_split
    : (table : List FunctionData) (n : ℕ) (fs gs : List FunctionData) → At table n (fs ++ gs)
    → At table n fs × At table (n + length fs) gs
unfolding At
at_split table n [] gs h = (tt, subst (λ k. At table k gs) (omega arith) h)
at_split table n (f ∷ fs) gs h =
    let g = at_split table (n + 1) fs gs h.1 in ((h.0, g.0), subst (λ k. At table k gs) (omega arith) g.1)
