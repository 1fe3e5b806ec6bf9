-- `Transformer.copyFile`: a copy pip, and its file.
use Rattle.std.specs.Prelude.{List, Ok}
use Rattle.bx_tree.specs.Paths.{Atoms}
use Rattle.bx_tree.specs.declared.file_input.FileInput.TheVariants.{Made}
use Rattle.pip_model_types.specs.declared.pip.CopyDesc.{CopyDesc}
use Rattle.pip_model_types.specs.declared.pip.PipKind.TheVariants as kinds
use Rattle.dscript_value.specs.Plain as plain
use Rattle.dscript_value.specs.Plain.{Plain}
use Rattle.dscript_sdk_values.specs.Arguments.{two_of}
use Rattle.dscript_sdk_values.specs.Kinds.{file_in, path_in}
use Rattle.dscript_sdk_values.specs.Outcomes.{Outcome, ◌>>=◌}
use Rattle.dscript_sdk_pips.specs.States.{Change, State, with_pip}

-- what the arguments ask for
abbrev pub copied_file : List Plain → Outcome CopyDesc
copied_file args =
    two_of args >>= λ two.
    file_in two.0 >>= λ from.
    path_in two.1 >>= λ to.
    Ok (record { from = from; to = to })

-- a new copy pip, and its file
abbrev pub with_copy : Atoms → CopyDesc → State → Change
with_copy spec d s = with_pip spec (kinds.Copy d) (λ number. plain.File (Made d.to number)) s

unfoldable pub copy_file : Atoms → List Plain → State → Change
copy_file spec args s = copied_file args >>= λ d. with_copy spec d s
