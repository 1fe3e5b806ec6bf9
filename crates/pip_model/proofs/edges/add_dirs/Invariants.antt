use Rattle.std.proofs.Common.{◌≡◌, ◌++◌, take}
use Rattle.std.specs.List.{flat_map}
use Rattle.pip_model.specs.Edges.{dir_targets}
use Rattle.pip_model.proofs.edges.add_dirs.Given as goal

abbrev pub invariant-dirs : goal.invariant-dirs
invariant-dirs l = l.found.items ≡ l.initial.found.items ++ flat_map (dir_targets l.pips) (take l.dir-index l.dirs)
