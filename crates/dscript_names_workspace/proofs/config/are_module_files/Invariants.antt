use Rattle.std.proofs.Common.{◌≡◌, drop}
use Rattle.std.specs.List.{list_all}
use Rattle.dscript_names_workspace.specs.Paths.{AreWithin, is_module_file, paths_at}
use Rattle.dscript_names_workspace.proofs.config.are_module_files.Given as goal

abbrev pub invariant-positions : goal.invariant-positions
invariant-positions l = record {
  tests : list_all is_module_file (paths_at l.tree (drop l.position-index l.positions))
      ≡ list_all is_module_file (paths_at l.tree l.positions);
  within : AreWithin l.tree (drop l.position-index l.positions);
}
