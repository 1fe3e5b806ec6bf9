use Rattle.std.proofs.Common.{map, take}
use Rattle.std.specs.List.{AllZip}
use Rattle.dscript_program.specs.ProgramData.{FileData}
use Rattle.dscript_program.specs.Views.{file_data}
use Rattle.dscript_types_notes.specs.Names.{HasTypesOf}
use Rattle.dscript_types_notes.proofs.names.types_of_files.Given as goal

abbrev pub invariant-files : goal.invariant-files
invariant-files l = AllZip (λ (f : FileData) types. HasTypesOf f.decls types) (map file_data (take l.file-index l.files)) l.all.items
