use Rattle.std.proofs.Common.{◌≡◌, true, filter, take}
use Rattle.bx_tree.specs.Paths.{Atoms, has_path}
use Rattle.bx_tree.specs.Trees.{paths_of}
use Rattle.bx_tree.specs.Views.{files_of}
use Rattle.dscript_names_workspace.specs.Membership.{is_implied}
use Rattle.dscript_names_workspace.specs.PathSets.{files_in}
use Rattle.dscript_names_workspace.proofs.membership.implied_files.Given as goal

abbrev pub invariant-files : goal.invariant-files
invariant-files l = (dir : Atoms) → has_path l.dirs dir ≡ true →
    files_in l.implied dir ≡ filter (is_implied l.dirs dir) (paths_of (files_of (take l.file-index l.files)))
