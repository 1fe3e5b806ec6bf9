-- `Transformer.sealSourceDirectory`: a seal of the source files directly in its root, or of all below it.
use Rattle.std.specs.Prelude.{ℕ, if◌then◌else◌, List, [], ◌∷◌, codes, Ok, Err}
use Rattle.std.specs.Str.{bytes_eq}
use Rattle.bx_tree.specs.Paths.{Atoms}
use Rattle.pip_model_types.specs.declared.dir_inputs.SealForm.{SealForm}
use Rattle.pip_model_types.specs.declared.dir_inputs.SealForm.TheVariants.{SourceTop, SourceAll}
use Rattle.pip_model_types.specs.declared.pip.SealDesc.{SealDesc}
use Rattle.dscript_value.specs.Plain as plain
use Rattle.dscript_value.specs.Plain.{Plain}
use Rattle.dscript_sdk_values.specs.declared.fault.SdkFault.TheVariants.{BadArgument, Kind}
use Rattle.dscript_sdk_values.specs.Kinds.{directory_in}
use Rattle.dscript_sdk_values.specs.Outcomes.{Outcome, ◌>>=◌}
use Rattle.dscript_sdk_pips.specs.Seals.{with_sealed}
use Rattle.dscript_sdk_pips.specs.States.{Change, State}

abbrev pub form_named : List ℕ → Outcome SealForm
form_named text =
    if bytes_eq text (codes "topDirectoryOnly") then Ok SourceTop else
    (if bytes_eq text (codes "allDirectories") then Ok SourceAll else Err BadArgument)

abbrev pub form_in : Plain → Outcome SealForm
form_in plain.Undefined = Ok SourceTop
form_in (plain.Text text) = form_named text
form_in _ = Err Kind

-- the form that the second argument asks for; a missing one is undefined
abbrev pub form_of_rest : List Plain → Outcome SealForm
form_of_rest [] = Ok SourceTop
form_of_rest (option ∷ more) = form_in option

-- what the arguments ask to seal; a source seal lists no files
abbrev pub sealed_sources : List Plain → Outcome SealDesc
sealed_sources [] = Err BadArgument
sealed_sources (dir ∷ rest) =
    directory_in dir >>= λ root.
    form_of_rest rest >>= λ form.
    Ok (record { form = form; root = root; files = [] })

unfoldable pub seal_source_directory : Atoms → List Plain → State → Change
seal_source_directory spec args s = sealed_sources args >>= λ d. with_sealed spec d s
