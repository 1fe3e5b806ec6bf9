-- `Transformer.sealPartialDirectory`: a partial seal.
use Rattle.std.specs.Prelude.{if◌then◌else◌, List, Ok, Err}
use Rattle.bx_tree.specs.Paths.{Atoms}
use Rattle.bx_tree.specs.declared.file_input.FileInput.{FileInput}
use Rattle.pip_model_types.specs.declared.dir_inputs.SealForm.TheVariants.{Partial}
use Rattle.pip_model_types.specs.declared.pip.SealDesc.{SealDesc}
use Rattle.dscript_value.specs.Plain.{Plain}
use Rattle.dscript_sdk_values.specs.declared.fault.SdkFault.TheVariants.{BadArgument}
use Rattle.dscript_sdk_values.specs.Outcomes.{Outcome, ◌>>=◌}
use Rattle.dscript_sdk_pips.specs.FileSets.{files_by_path}
use Rattle.dscript_sdk_pips.specs.Seals.{are_below, sealed_in, with_sealed}
use Rattle.dscript_sdk_pips.specs.States.{Change, State}

-- the partial seal of these files, each path once
abbrev pub partial_seal : Atoms → List FileInput → Outcome SealDesc
partial_seal dir files =
    if are_below dir files
    then Ok (record { form = Partial; root = dir; files = files_by_path files }) else Err BadArgument

abbrev pub asked_seal : List Plain → Outcome SealDesc
asked_seal args = sealed_in args >>= λ given. partial_seal given.0 given.1

unfoldable pub seal_partial_directory : Atoms → List Plain → State → Change
seal_partial_directory spec args s = asked_seal args >>= λ d. with_sealed spec d s
