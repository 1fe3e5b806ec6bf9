use Rattle.std.proofs.Common.{◌≡◌, take}
use Rattle.std.specs.Prelude.{◌||◌}
use Rattle.bx_tree.specs.Paths.{Atoms, has_path}
use Rattle.dscript_names_workspace.specs.PathSets.{has}
use Rattle.dscript_names_workspace.proofs.path_set.add_paths.Given as goal

abbrev pub invariant-paths : goal.invariant-paths
invariant-paths l = (path : Atoms) → has l.set path ≡ (has l.initial.set path || has_path (take l.path-index l.paths) path)
