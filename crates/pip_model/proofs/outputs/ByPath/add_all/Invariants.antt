use Rattle.std.proofs.Common.{◌≡◌, ◌++◌, ℕ, List, take}
use Rattle.pip_model.specs.Outputs.{found_in, numbers_at}
use Rattle.pip_model.proofs.outputs.ByPath.add_all.Given as goal

abbrev pub invariant-paths : goal.invariant-paths
invariant-paths l = (text : List ℕ) → found_in l.self text
    ≡ found_in l.initial.self text ++ numbers_at l.number text (take l.path-index l.paths)
