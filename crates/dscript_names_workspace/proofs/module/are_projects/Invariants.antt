use Rattle.std.proofs.Common.{◌≡◌, drop}
use Rattle.dscript_names_workspace.specs.Modules.{are_projects}
use Rattle.dscript_names_workspace.specs.Paths.{AreWithin, paths_at}
use Rattle.dscript_names_workspace.proofs.module.are_projects.Given as goal

abbrev pub invariant-positions : goal.invariant-positions
invariant-positions l = record {
  tests : are_projects l.dir (paths_at l.tree (drop l.position-index l.positions))
      ≡ are_projects l.dir (paths_at l.tree l.positions);
  within : AreWithin l.tree (drop l.position-index l.positions);
}
