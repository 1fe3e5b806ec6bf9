use Rattle.std.proofs.Common.{◌⊎◌, take}
use Rattle.std.specs.Prelude.{◌↔◌}
use Rattle.std.specs.List.{Contains}
use Rattle.bx_tree.specs.Paths.{Atoms}
use Rattle.graph_check_outputs.proofs.seen.see_all.Given as goal

abbrev pub invariant-paths : goal.invariant-paths
invariant-paths l = (p : Atoms) → Contains l.seen p ↔ (Contains l.initial.seen p ⊎ Contains (take l.path-index l.paths) p)
