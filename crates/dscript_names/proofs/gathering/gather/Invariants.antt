use Rattle.std.proofs.Common.{◌≡◌, [], drop, map, take}
use Rattle.dscript_program.specs.Workspaces.{modules_of}
use Rattle.dscript_names_scopes.specs.Declarations.{names_of}
use Rattle.dscript_names_scopes.specs.Duplicates.{first_duplicate}
use Rattle.dscript_names.specs.Gathering.{IsTrueTo}
use Rattle.dscript_names.specs.Views.{parsed_data}
use Rattle.dscript_names.proofs.gathering.gather.Given as goal

abbrev pub invariant-files : goal.invariant-files
invariant-files l =
    (l.gathering.files.items ≡ map (names_of (modules_of l.work)) (map parsed_data (take l.file-index l.parsed)))
    × IsTrueTo l.gathering
    × (first_duplicate (modules_of l.work) [] (map parsed_data l.parsed)
    ≡ first_duplicate (modules_of l.work) l.gathering.files.items (drop l.file-index (map parsed_data l.parsed)))
