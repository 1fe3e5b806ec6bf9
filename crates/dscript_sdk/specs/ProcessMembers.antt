-- The members of processes.
use Rattle.std.specs.Prelude.{ℕ, if◌then◌else◌, List, [], map, slice_get, Option, Some, None, Ok, Err}
use Rattle.std.specs.List.{list_any}
use Rattle.bx_tree.specs.Paths.{Atoms, same_path}
use Rattle.bx_tree.specs.declared.file_input.FileInput.TheVariants.{Made}
use Rattle.pip_model_types.specs.declared.outputs.OutDir.{OutDir}
use Rattle.pip_model_types.specs.declared.pip.Pip.{Pip}
use Rattle.pip_model_types.specs.declared.pip.PipKind.{PipKind}
use Rattle.pip_model_types.specs.declared.pip.PipKind.TheVariants as kinds
use Rattle.dscript_value.specs.declared.parts.StaticDir.TheVariants.{Opaque}
use Rattle.dscript_value.specs.Plain as plain
use Rattle.dscript_value.specs.Plain.{Plain}
use Rattle.dscript_sdk_values.specs.declared.fault.SdkFault.TheVariants.{BadArgument}
use Rattle.dscript_sdk_values.specs.Arguments.{one_of}
use Rattle.dscript_sdk_values.specs.Kinds.{directory_in, path_in}
use Rattle.dscript_sdk_values.specs.Outcomes.{◌>>=◌}
use Rattle.dscript_sdk_members.specs.Functions.{MemberFunction}
use Rattle.dscript_sdk_members.specs.declared.member.Member.{Member}
use Rattle.dscript_sdk_members.specs.declared.member.Member.TheVariants as members
use Rattle.dscript_sdk_pips.specs.States.{State}

-- the output files that a process declares; its console file is none of them
abbrev pub files_of_kind : PipKind → List Atoms
files_of_kind (kinds.Process d) = d.outs
files_of_kind (kinds.Copy d) = []
files_of_kind (kinds.Write d) = []
files_of_kind (kinds.Seal d) = []

abbrev pub directories_of_kind : PipKind → List Atoms
directories_of_kind (kinds.Process d) = map (λ (dir : OutDir). dir.path) d.outdirs
directories_of_kind (kinds.Copy d) = []
directories_of_kind (kinds.Write d) = []
directories_of_kind (kinds.Seal d) = []

-- what the pip with a number declares, if there is one
abbrev pub declared_by : (PipKind → List Atoms) → Option Pip → List Atoms
declared_by what None = []
declared_by what (Some pip) = what pip.kind

abbrev pub output_file : State → ℕ → MemberFunction
output_file s number args =
    one_of args >>= path_in >>= λ path.
    if list_any (same_path path) (declared_by files_of_kind (slice_get s.pips number))
    then Ok (plain.File (Made path number)) else Err BadArgument

abbrev pub output_directory : State → ℕ → MemberFunction
output_directory s number args =
    one_of args >>= directory_in >>= λ dir.
    if list_any (same_path dir) (declared_by directories_of_kind (slice_get s.pips number))
    then Ok (plain.Static (Opaque number dir)) else Err BadArgument

unfoldable pub process_function : State → Member → ℕ → Option MemberFunction
process_function s members.GetOutputFile number = Some (output_file s number)
process_function s members.GetOutputDirectory number = Some (output_directory s number)
process_function s _ number = None
