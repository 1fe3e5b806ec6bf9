use Rattle.std.proofs.Common.{◌≡◌, drop}
use Rattle.std.specs.List.{list_any}
use Rattle.dscript_names_workspace.specs.PathSets.{has}
use Rattle.dscript_names_workspace.proofs.module_file.any_taken.Given as goal

abbrev pub invariant-files : goal.invariant-files
invariant-files l = list_any (has l.taken) (drop l.file-index l.files) ≡ list_any (has l.taken) l.files
