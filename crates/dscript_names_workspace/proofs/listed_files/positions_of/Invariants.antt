use Rattle.std.proofs.Common.{◌≡◌, drop, take}
use Rattle.std.specs.List.{list_all}
use Rattle.dscript_names_workspace.specs.Paths.{AreWithin, is_source, paths_at}
use Rattle.dscript_names_workspace.proofs.listed_files.positions_of.Given as goal

abbrev pub invariant-paths : goal.invariant-paths
invariant-paths l = record {
  tests : list_all (is_source l.tree) (drop l.path-index l.paths) ≡ list_all (is_source l.tree) l.paths;
  files : paths_at l.tree l.positions.items ≡ take l.path-index l.paths;
  within : AreWithin l.tree l.positions.items;
}
