use Rattle.std.proofs.Common.{◌≡◌, drop, take}
use Rattle.dscript_names_workspace.specs.Paths.{AreWithin, paths_at}
use Rattle.dscript_names_workspace.proofs.module_reading.paths_at.Given as goal

abbrev pub invariant-positions : goal.invariant-positions
invariant-positions l = record {
  paths : l.paths.items ≡ paths_at l.tree (take l.position-index l.positions);
  within : AreWithin l.tree (drop l.position-index l.positions);
}
