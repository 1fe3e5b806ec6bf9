use Rattle.std.proofs.Common.{◌≡◌, ◌++◌, take}
use Rattle.graph_check_outputs.specs.Sharing.{lone_among}
use Rattle.graph_check_outputs.proofs.declared.add_lone.Given as goal

abbrev pub invariant-dirs : goal.invariant-dirs
invariant-dirs l = l.paths.items ≡ l.initial.paths.items ++ lone_among (take l.dir-index l.dirs)
