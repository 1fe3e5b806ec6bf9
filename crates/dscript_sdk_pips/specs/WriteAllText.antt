-- `Transformer.writeAllText`: a write pip with a text, and its file.
use Rattle.std.specs.Prelude.{List, [], ◌∷◌, codes, Ok}
use Rattle.bx_tree.specs.Paths.{Atoms}
use Rattle.bx_tree.specs.declared.file_input.FileInput.TheVariants.{Made}
use Rattle.pip_model_types.specs.declared.pip.PipKind.TheVariants as kinds
use Rattle.pip_model_types.specs.declared.pip.WriteDesc.{WriteDesc}
use Rattle.dscript_value.specs.Plain as plain
use Rattle.dscript_value.specs.Plain.{Plain}
use Rattle.dscript_sdk_values.specs.Arguments.{one_of}
use Rattle.dscript_sdk_values.specs.Kinds.{path_in, text_in}
use Rattle.dscript_sdk_values.specs.Objects.{field_in, fields_in}
use Rattle.dscript_sdk_values.specs.Outcomes.{Outcome, ◌>>=◌}
use Rattle.dscript_sdk_pips.specs.States.{Change, State, with_pip}

-- what the argument asks for
abbrev pub written_text : List Plain → Outcome WriteDesc
written_text args =
    one_of args >>= fields_in (codes "outputPath" ∷ codes "text" ∷ []) [] >>= λ fields.
    field_in fields (codes "outputPath") path_in >>= λ to.
    field_in fields (codes "text") text_in >>= λ text.
    Ok (record { to = to; text = text })

-- a new write pip, and its file
abbrev pub with_write : Atoms → WriteDesc → State → Change
with_write spec d s = with_pip spec (kinds.Write d) (λ number. plain.File (Made d.to number)) s

unfoldable pub write_all_text : Atoms → List Plain → State → Change
write_all_text spec args s = written_text args >>= λ d. with_write spec d s
