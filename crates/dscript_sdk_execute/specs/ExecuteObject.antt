-- What the object of `Transformer.execute` says.
use Rattle.std.specs.Prelude.{ℕ, Bool, true, false, ◌&&◌, not, if◌then◌else◌, List, [], ◌∷◌, codes}
use Rattle.std.specs.Prelude.{Option, Ok, Err}
use Rattle.std.specs.List.{list_any}
use Rattle.std.specs.Str.{bytes_eq}
use Rattle.std.specs.Cmp.Lexicographic.{slice_cmp}
use Rattle.std.specs.Ordering.{nat_cmp, on}
use Rattle.std.specs.declared.cmp.Ordering.{Ordering}
use Rattle.bx_tree.specs.Paths.{Atoms}
use Rattle.bx_tree.specs.declared.file_input.FileInput.{FileInput}
use Rattle.bx_tree.specs.declared.file_input.FileInput.TheVariants as files
use Rattle.pip_model_types.specs.declared.args.EnvPair.{EnvPair}
use Rattle.dscript_value.specs.declared.parts.ArgumentParts.{ArgumentParts as AnyArgument}
use Rattle.dscript_value.specs.Plain as plain
use Rattle.dscript_value.specs.Plain.{Plain, PlainField}
use Rattle.dscript_sdk_values.specs.declared.fault.SdkFault.TheVariants.{BadArgument, Kind}
use Rattle.dscript_sdk_values.specs.Arguments.{one_of}
use Rattle.dscript_sdk_values.specs.Kinds.{argument_in, directory_in, file_in, list_in, path_in, text_in}
use Rattle.dscript_sdk_values.specs.Objects.{field_in, fields_in, optional_in, optional_list_in}
use Rattle.dscript_sdk_values.specs.Outcomes.{Outcome, ◌>>=◌}
use Rattle.dscript_sdk_execute.specs.declared.dependency.Dependency.{Dependency}
use Rattle.dscript_sdk_execute.specs.declared.dependency.Dependency.TheVariants as dependencies
use Rattle.dscript_sdk_execute.specs.declared.output.Output.{Output}
use Rattle.dscript_sdk_execute.specs.declared.output.Output.TheVariants as outputs
use Rattle.dscript_sdk_execute.specs.Sets.{set_by}

-- What the process takes: its executable, its arguments, the directory in which it works, and its inputs.
pub record Taken : Type 0 where
  pub exe : Atoms
  pub arguments : List AnyArgument
  pub directory : Option Atoms
  pub dependencies : List Dependency

-- What the process makes, and its environment, by name.
pub record Made : Type 0 where
  pub outputs : List Output
  pub console : Option Atoms
  pub variables : List EnvPair

-- ## The values of single fields

abbrev pub source_of : FileInput → Outcome Atoms
source_of (files.Source path) = Ok path
source_of (files.Made path maker) = Err BadArgument

-- an executable is a source file
abbrev pub exe_in : Plain → Outcome Atoms
exe_in v = file_in v >>= source_of

abbrev pub tool_in : Plain → Outcome Atoms
tool_in v =
    fields_in (codes "exe" ∷ []) (codes "description" ∷ []) v >>= λ fields.
    field_in fields (codes "exe") exe_in >>= λ exe.
    optional_in fields (codes "description") text_in >>= λ _.
    Ok exe

-- a file or a static directory that the process takes
abbrev pub dependency_in : Plain → Outcome Dependency
dependency_in (plain.File file) = Ok (dependencies.File file)
dependency_in (plain.Static dir) = Ok (dependencies.Directory dir)
dependency_in _ = Err Kind

-- the text `shared`, which tells nothing further
abbrev pub shared_in : Plain → Outcome (List ℕ)
shared_in v = text_in v >>= λ text. if bytes_eq text (codes "shared") then Ok [] else Err BadArgument

-- the directory that an object says to be shared
abbrev pub shared_directory_in : Plain → Outcome Atoms
shared_directory_in v =
    fields_in (codes "kind" ∷ codes "directory" ∷ []) [] v >>= λ fields.
    field_in fields (codes "kind") shared_in >>= λ _.
    field_in fields (codes "directory") directory_in

abbrev pub as_shared : Atoms → Outcome Output
as_shared dir = Ok (outputs.Directory (record { path = dir; shared = true }))

-- a file, a directory that the process alone writes, or a shared one
abbrev pub output_in : Plain → Outcome Output
output_in (plain.Path path) = Ok (outputs.File path)
output_in (plain.Directory dir) = Ok (outputs.Directory (record { path = dir; shared = false }))
output_in (plain.Object depth members) = shared_directory_in (plain.Object depth members) >>= as_shared
output_in _ = Err Kind

-- a text that is not empty
abbrev pub name_in : Plain → Outcome (List ℕ)
name_in v = text_in v >>= λ text. if bytes_eq text [] then Err BadArgument else Ok text

abbrev pub variable_in : Plain → Outcome EnvPair
variable_in v =
    fields_in (codes "name" ∷ codes "value" ∷ []) [] v >>= λ fields.
    field_in fields (codes "name") name_in >>= λ name.
    field_in fields (codes "value") text_in >>= λ value.
    Ok (record { name = name; value = value })

-- whether no two variables have one name
abbrev pub has_distinct_names : List EnvPair → Bool
has_distinct_names [] = true
has_distinct_names (x ∷ xs) =
    not (list_any (λ (y : EnvPair). bytes_eq x.name y.name) xs) && has_distinct_names xs

abbrev pub name_cmp : EnvPair → EnvPair → Ordering
name_cmp = on (λ (v : EnvPair). v.name) (slice_cmp nat_cmp)

-- variables of different names, by name
abbrev pub variables_in : Plain → Outcome (List EnvPair)
variables_in v =
    list_in variable_in v >>= λ variables.
    if has_distinct_names variables then Ok (set_by name_cmp variables) else Err BadArgument

-- ## The whole object

abbrev pub optional_fields : List (List ℕ)
optional_fields =
    codes "arguments" ∷ codes "workingDirectory" ∷ codes "dependencies" ∷ codes "outputs"
    ∷ codes "consoleOutput" ∷ codes "environmentVariables" ∷ codes "description" ∷ codes "tags" ∷ []

abbrev pub taken_in : List PlainField → Outcome Taken
taken_in fields =
    field_in fields (codes "tool") tool_in >>= λ exe.
    optional_list_in fields (codes "arguments") (list_in argument_in) >>= λ arguments.
    optional_in fields (codes "workingDirectory") directory_in >>= λ directory.
    optional_list_in fields (codes "dependencies") (list_in dependency_in) >>= λ dependencies.
    Ok (record { exe = exe; arguments = arguments; directory = directory; dependencies = dependencies })

abbrev pub made_in : List PlainField → Outcome Made
made_in fields =
    optional_list_in fields (codes "outputs") (list_in output_in) >>= λ outputs.
    optional_in fields (codes "consoleOutput") path_in >>= λ console.
    optional_list_in fields (codes "environmentVariables") variables_in >>= λ variables.
    Ok (record { outputs = outputs; console = console; variables = variables })

-- The fields in their order; the description and the tags may hold anything.
unfoldable pub request_in : Plain → Outcome (Taken × Made)
request_in v =
    fields_in (codes "tool" ∷ []) optional_fields v >>= λ fields.
    taken_in fields >>= λ taken.
    made_in fields >>= λ made.
    Ok (taken, made)

-- what the arguments of the call say
abbrev pub request_of : List Plain → Outcome (Taken × Made)
request_of args = one_of args >>= request_in
