-- `Transformer.sealDirectory`: a full seal, which lists each source file below its root.
use Rattle.std.specs.Prelude.{◌&&◌, if◌then◌else◌, List, Ok, Err}
use Rattle.bx_tree.specs.Paths.{Atoms}
use Rattle.bx_tree.specs.declared.file_input.FileInput.{FileInput}
use Rattle.pip_model_types.specs.declared.dir_inputs.SealForm.TheVariants.{Full}
use Rattle.pip_model_types.specs.declared.pip.SealDesc.{SealDesc}
use Rattle.dscript_value.specs.Plain.{Plain}
use Rattle.dscript_sdk_values.specs.declared.fault.SdkFault.TheVariants.{BadArgument}
use Rattle.dscript_sdk_values.specs.Outcomes.{Outcome, ◌>>=◌}
use Rattle.dscript_sdk_pips.specs.FileSets.{files_by_path}
use Rattle.dscript_sdk_pips.specs.Seals.{are_below, lists_sources, sealed_in, with_sealed}
use Rattle.dscript_sdk_calls.specs.Sources.{Answers}
use Rattle.dscript_sdk_calls.specs.declared.tree_ask.TreeAsk.TheVariants.{Below}
use Rattle.dscript_sdk_pips.specs.States.{Change, State, with_ask}

-- the full seal of these files, each path once, where these are the source files below its root
abbrev pub full_seal : List Atoms → Atoms → List FileInput → Outcome SealDesc
full_seal sources dir files =
    if are_below dir files && lists_sources sources files
    then Ok (record { form = Full; root = dir; files = files_by_path files }) else Err BadArgument

abbrev pub asked_seal : Answers → List Plain → Outcome SealDesc
asked_seal answers args = sealed_in args >>= λ given. full_seal (answers (Below given.0)) given.0 given.1

-- The call asks for all source files below its directory.
unfoldable pub seal_directory : Atoms → List Plain → State → Change
seal_directory spec args s =
    asked_seal s.answers args >>= λ d. with_sealed spec d (with_ask (Below d.root) s)
