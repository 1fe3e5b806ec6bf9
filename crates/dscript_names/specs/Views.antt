-- Parsed files and faults as contracts see them.
use Rattle.std.specs.Prelude.{◌≡◌, List, Err}
use Rattle.std.specs.Bool.{⊤}
use Rattle.dscript_ast.specs.Views.{file_tree}
use Rattle.dscript_names_scopes.specs.Declarations.{ParsedData}
use Rattle.dscript_names.specs.Named.{named}
use Rattle.dscript_names.specs.declared.parsed.Parsed.{Parsed}
use Rattle.dscript_program.specs.Workspaces.{ModuleData}
use Rattle.dscript_program.specs.declared.spec_fault.SpecFault.{SpecFault}
use Rattle.dscript_program.specs.declared.spec_fault.SpecFault.TheVariants as faults

abbrev pub parsed_data : Parsed → ParsedData
parsed_data p = record { path = p.path; file = file_tree p.file }

-- the workspace is refused with this fault; running out of memory has no cause that is stated
abbrev pub IsRefused : List ModuleData → List ParsedData → SpecFault → Type 0
IsRefused modules files (faults.Fault kind file place) =
    named modules files ≡ Err (record { kind = kind; file = file; place = place })
IsRefused modules files faults.Memory = ⊤
