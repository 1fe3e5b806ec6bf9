use Rattle.std.proofs.Common.{◌≡◌, ◌++◌, map, take}
use Rattle.pip_model_types.specs.declared.outputs.OutDir.{OutDir}
use Rattle.graph_check_outputs.proofs.declared.add_dirs.Given as goal

abbrev pub invariant-dirs : goal.invariant-dirs
invariant-dirs l = l.paths.items ≡ l.initial.paths.items ++ map (λ (dir : OutDir). dir.path) (take l.dir-index l.dirs)
