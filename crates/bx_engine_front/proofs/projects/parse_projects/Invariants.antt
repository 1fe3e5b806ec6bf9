use Rattle.std.proofs.Common.{drop}
use Rattle.dscript_names.specs.ProjectFiles.{all_parsed}
use Rattle.bx_engine_front.specs.Projects.{lent_files}
use Rattle.bx_engine_front.proofs.ProjectFiles.{ReadSoFar}
use Rattle.bx_engine_front.proofs.projects.parse_projects.Given as goal

abbrev pub invariant-files : goal.invariant-files
invariant-files l =
    ReadSoFar (lent_files l.files) (lent_files (drop l.file-index l.files)) (all_parsed l.parsed.items)
