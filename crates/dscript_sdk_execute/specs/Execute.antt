-- `Transformer.execute`: a process pip, and a process.
use Rattle.std.specs.Prelude.{ℕ, Bool, false, ◌&&◌, ◌||◌, not, if◌then◌else◌, List, [], ◌++◌, map}
use Rattle.std.specs.Prelude.{slice_get, unwrap_or, Option, Some, None, Ok, Err}
use Rattle.std.specs.List.{filter_map, list_any}
use Rattle.bx_tree.specs.Paths.{Atoms, path_cmp, same_path}
use Rattle.bx_tree.specs.declared.file_input.FileInput.{FileInput}
use Rattle.bx_path.specs.Joining.{parent}
use Rattle.pip_model_types.specs.Dirs.{dir_cmp}
use Rattle.pip_model_types.specs.Outputs.{outdir_cmp}
use Rattle.pip_model_types.specs.declared.dir_inputs.DirInput.{DirInput}
use Rattle.pip_model_types.specs.declared.dir_inputs.DirInput.TheVariants as dirs
use Rattle.pip_model_types.specs.declared.dir_inputs.SealForm.{SealForm}
use Rattle.pip_model_types.specs.declared.dir_inputs.SealForm.TheVariants.{Full}
use Rattle.pip_model_types.specs.declared.outputs.OutDir.{OutDir}
use Rattle.pip_model_types.specs.declared.pip.Pip.{Pip}
use Rattle.pip_model_types.specs.declared.pip.PipKind.{PipKind}
use Rattle.pip_model_types.specs.declared.pip.PipKind.TheVariants as kinds
use Rattle.pip_model_types.specs.declared.pip.ProcessDesc.{ProcessDesc}
use Rattle.dscript_value.specs.Equality.{artifact_path}
use Rattle.dscript_value.specs.declared.parts.ArgumentParts.{ArgumentParts as AnyArgument}
use Rattle.dscript_value.specs.declared.parts.Artifact.{Artifact as AnyArtifact}
use Rattle.dscript_value.specs.declared.parts.Artifact.TheVariants as artifacts
use Rattle.dscript_value.specs.declared.parts.StaticDir.{StaticDir}
use Rattle.dscript_value.specs.declared.parts.StaticDir.TheVariants as static_dirs
use Rattle.dscript_value.specs.Plain as plain
use Rattle.dscript_value.specs.Plain.{Plain}
use Rattle.dscript_sdk_values.specs.declared.fault.SdkFault.TheVariants.{BadArgument}
use Rattle.dscript_sdk_values.specs.Outcomes.{Outcome, ◌>>=◌}
use Rattle.dscript_sdk_execute.specs.declared.dependency.Dependency.{Dependency}
use Rattle.dscript_sdk_execute.specs.declared.dependency.Dependency.TheVariants as dependencies
use Rattle.dscript_sdk_execute.specs.declared.output.Output.{Output}
use Rattle.dscript_sdk_execute.specs.declared.output.Output.TheVariants as outputs
use Rattle.dscript_sdk_execute.specs.ExecuteObject.{Made, Taken, request_of}
use Rattle.dscript_sdk_pips.specs.FileSets.{files_by_path}
use Rattle.dscript_sdk_execute.specs.Sets.{set_by}
use Rattle.dscript_sdk_pips.specs.States.{Change, State, with_pip}
use Rattle.dscript_sdk_values.specs.PathTexts.{path_argument}

-- ## What the arguments say

abbrev pub artifact_text : Option AnyArtifact → List ℕ
artifact_text None = []
artifact_text (Some artifact) = path_argument (artifact_path artifact)

-- an argument as the process gets it; one with neither a text nor an artifact is none
abbrev pub written_parts : Option (List ℕ) → Option AnyArtifact → Option (List ℕ)
written_parts None None = None
written_parts None (Some artifact) = Some (artifact_text (Some artifact))
written_parts (Some text) artifact = Some (text ++ artifact_text artifact)

abbrev pub written : AnyArgument → Option (List ℕ)
written a = written_parts a.text a.artifact

abbrev pub artifact_of : AnyArgument → Option AnyArtifact
artifact_of a = a.artifact

-- ## Inputs and outputs

abbrev pub taken_file : Dependency → Option FileInput
taken_file (dependencies.File file) = Some file
taken_file (dependencies.Directory dir) = None

abbrev pub taken_dir : Dependency → Option StaticDir
taken_dir (dependencies.File file) = None
taken_dir (dependencies.Directory dir) = Some dir

-- an artifact as an input
abbrev pub input_of : AnyArtifact → Option Dependency
input_of (artifacts.Input file) = Some (dependencies.File file)
input_of (artifacts.InputDir dir) = Some (dependencies.Directory dir)
input_of (artifacts.Output path) = None
input_of (artifacts.OutputDir path) = None
input_of (artifacts.Plain path) = None

-- the form of a seal; other pips have none, and no static directory is theirs
abbrev pub form_of_kind : PipKind → SealForm
form_of_kind (kinds.Seal d) = d.form
form_of_kind (kinds.Process d) = Full
form_of_kind (kinds.Copy d) = Full
form_of_kind (kinds.Write d) = Full

abbrev pub form_of_pip : Option Pip → SealForm
form_of_pip None = Full
form_of_pip (Some pip) = form_of_kind pip.kind

-- a static directory as an input
abbrev pub dir_input : List Pip → StaticDir → DirInput
dir_input pips (static_dirs.Seal number root) =
    dirs.Sealed number (form_of_pip (slice_get pips number)) root
dir_input pips (static_dirs.Opaque number path) = dirs.Opaque number path

-- an artifact as an output; a directory that an argument names is written by the process alone
abbrev pub made_output : AnyArtifact → Option Output
made_output (artifacts.Input file) = None
made_output (artifacts.InputDir dir) = None
made_output (artifacts.Output path) = Some (outputs.File path)
made_output (artifacts.OutputDir path) = Some (outputs.Directory (record { path = path; shared = false }))
made_output (artifacts.Plain path) = None

abbrev pub file_output : Output → Option Atoms
file_output (outputs.File path) = Some path
file_output (outputs.Directory dir) = None

abbrev pub directory_output : Output → Option OutDir
directory_output (outputs.File path) = None
directory_output (outputs.Directory dir) = Some dir

-- ## Clashes

abbrev pub has_other_sharing : List OutDir → OutDir → Bool
has_other_sharing outdirs d =
    list_any (λ (e : OutDir). same_path d.path e.path && d.shared && not e.shared) outdirs

-- whether one directory is both exclusive and shared
abbrev pub shares_exclusive : List OutDir → Bool
shares_exclusive outdirs = list_any (has_other_sharing outdirs) outdirs

-- whether the console's path is that of another output
abbrev pub clashes_console : Option Atoms → List Atoms → List OutDir → Bool
clashes_console None outs outdirs = false
clashes_console (Some path) outs outdirs =
    list_any (same_path path) outs || list_any (λ (d : OutDir). same_path path d.path) outdirs

-- ## The process

abbrev pub artifacts_of : List AnyArgument → List AnyArtifact
artifacts_of arguments = filter_map artifact_of arguments

-- what the process takes, from its arguments too
abbrev pub inputs : Taken → List Dependency
inputs t = t.dependencies ++ filter_map input_of (artifacts_of t.arguments)

-- what it makes, from its arguments too
abbrev pub outputs_of : Taken → Made → List Output
outputs_of t m = m.outputs ++ filter_map made_output (artifacts_of t.arguments)

-- The working directory is the directory of the file of the call, unless another is given.
abbrev pub process_of : Atoms → List Pip → Taken → Made → ProcessDesc
process_of spec pips t m = record {
  exe = t.exe;
  args = filter_map written t.arguments;
  env = m.variables;
  dir = unwrap_or t.directory (unwrap_or (parent spec) []);
  files = files_by_path (filter_map taken_file (inputs t));
  dirs = set_by dir_cmp (map (dir_input pips) (filter_map taken_dir (inputs t)));
  outs = set_by path_cmp (filter_map file_output (outputs_of t m));
  outdirs = set_by outdir_cmp (filter_map directory_output (outputs_of t m));
  console = m.console;
}

abbrev pub unless_clashing : ProcessDesc → Outcome ProcessDesc
unless_clashing d =
    if shares_exclusive d.outdirs || clashes_console d.console d.outs d.outdirs then Err BadArgument else Ok d

-- the process that a call in a file asks for, after these pips
abbrev pub asked_process : Atoms → List Pip → List Plain → Outcome ProcessDesc
asked_process spec pips args =
    request_of args >>= λ request. unless_clashing (process_of spec pips request.0 request.1)

unfoldable pub execute : Atoms → List Plain → State → Change
execute spec args s =
    asked_process spec s.pips args >>= λ process. with_pip spec (kinds.Process process) plain.Process s
