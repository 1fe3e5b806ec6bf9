-- Sealed directories: what may be sealed.
use Rattle.std.specs.Prelude.{Bool, List, Ok}
use Rattle.std.specs.List.{list_all, list_any}
use Rattle.bx_tree.specs.Below.{is_below}
use Rattle.bx_tree.specs.Paths.{Atoms, same_path}
use Rattle.bx_tree.specs.declared.file_input.FileInput.{FileInput}
use Rattle.pip_model_types.specs.declared.pip.PipKind.TheVariants as kinds
use Rattle.pip_model_types.specs.declared.pip.SealDesc.{SealDesc}
use Rattle.dscript_value.specs.declared.parts.StaticDir.TheVariants as static_dirs
use Rattle.dscript_value.specs.Plain as plain
use Rattle.dscript_value.specs.Plain.{Plain}
use Rattle.dscript_sdk_values.specs.Arguments.{two_of}
use Rattle.dscript_sdk_values.specs.Kinds.{directory_in, file_in, list_in}
use Rattle.dscript_sdk_values.specs.Outcomes.{Outcome, ◌>>=◌}
use Rattle.dscript_sdk_pips.specs.States.{Change, State, with_pip}
use Rattle.bx_tree.specs.FileInputs.{input_path}

-- a directory, and the files that are to be sealed in it
abbrev pub sealed_in : List Plain → Outcome (Atoms × List FileInput)
sealed_in args =
    two_of args >>= λ two.
    directory_in two.0 >>= λ dir.
    list_in file_in two.1 >>= λ files.
    Ok (dir, files)

-- whether each file lies below the directory
abbrev pub are_below : Atoms → List FileInput → Bool
are_below dir files = list_all (λ file. is_below (input_path file) dir) files

-- whether a file has this path
abbrev pub is_listed : List FileInput → Atoms → Bool
is_listed files path = list_any (λ file. same_path (input_path file) path) files

-- whether each of these source files, which are all below a directory, is listed
abbrev pub lists_sources : List Atoms → List FileInput → Bool
lists_sources sources files = list_all (is_listed files) sources

-- a new seal, and its directory
abbrev pub with_sealed : Atoms → SealDesc → State → Change
with_sealed spec d s =
    with_pip spec (kinds.Seal d) (λ number. plain.Static (static_dirs.Seal number d.root)) s
