use Rattle.std.proofs.Common.{◌≡◌, take}
use Rattle.bx_tree.specs.Views.{files_of}
use Rattle.dscript_names.specs.ProjectFiles.{files_among}
use Rattle.bx_engine_front.specs.Projects.{lent_files}
use Rattle.bx_engine_front.proofs.projects.files_at.Given as goal

abbrev pub invariant-files : goal.invariant-files
invariant-files l = lent_files l.found.items ≡ files_among l.paths (files_of (take l.file-index l.files))
