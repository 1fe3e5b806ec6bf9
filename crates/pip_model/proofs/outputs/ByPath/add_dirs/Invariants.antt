use Rattle.std.proofs.Common.{◌≡◌, ◌++◌, ℕ, List, take}
use Rattle.std.specs.List.{flat_map}
use Rattle.pip_model_types.specs.declared.outputs.OutDir.{OutDir}
use Rattle.pip_model.specs.Outputs.{found_in, number_at}
use Rattle.pip_model.proofs.outputs.ByPath.add_dirs.Given as goal

abbrev pub invariant-dirs : goal.invariant-dirs
invariant-dirs l = (text : List ℕ) → found_in l.self text
    ≡ found_in l.initial.self text
    ++ flat_map (λ (dir : OutDir). number_at l.number text dir.path) (take l.dir-index l.dirs)
