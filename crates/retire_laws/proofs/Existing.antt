-- There is a hit set.
use Rattle.std.proofs.Common.{ℕ, ◌+◌, List, [], ◌∷◌, ◌++◌, refl, inl, inr}
use Rattle.bx_tree.specs.Trees.{Files}
use Rattle.bx_io.specs.Holdings.{Holdings}
use Rattle.pip_model_types.specs.declared.pip.Pip.{Pip}
use Rattle.one_thread.specs.OneThread.{Result, result_of}
use Rattle.retire.specs.HitSet.{HitsFrom, PipHits}

pub some_from : (pips : List Pip) (tree : Files) (budget : ℕ) (S : Holdings) (left : List Pip) (results : List Result) (i : ℕ)
    → ((numbers : List ℕ) → HitsFrom pips tree budget S results i left numbers → ⊥) → ⊥
some_from pips tree budget S [] results i none = none [] refl
some_from pips tree budget S (pip ∷ left) results i none =
    some_from pips tree budget S left (results ++ result_of pips tree budget results i pip.kind ∷ []) (i + 1)
    (λ rest h.
    let misses : PipHits pips tree budget S results i pip.kind → ⊥ = λ hit. none (i ∷ rest) (inl (hit, (rest, refl, h))) in
    none rest (inr (misses, h)))
