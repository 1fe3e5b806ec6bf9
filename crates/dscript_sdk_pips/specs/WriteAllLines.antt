-- `Transformer.writeAllLines`: a write pip of each line and a newline, and its file.
use Rattle.std.specs.Prelude.{ℕ, nat_le, if◌then◌else◌, List, [], ◌∷◌, ◌++◌, length, codes, Ok, Err}
use Rattle.std.specs.List.{flat_map}
use Rattle.bx_tree.specs.Paths.{Atoms}
use Rattle.pip_model_types.specs.declared.pip.WriteDesc.{WriteDesc}
use Rattle.dscript_value.specs.Plain.{Plain}
use Rattle.dscript_sdk_values.specs.declared.fault.SdkFault.TheVariants.{Range}
use Rattle.dscript_sdk_values.specs.declared.limits.TheConstants.{MAX_TEXT_BYTES}
use Rattle.dscript_sdk_values.specs.Arguments.{one_of}
use Rattle.dscript_sdk_values.specs.Kinds.{list_in, path_in, text_in}
use Rattle.dscript_sdk_values.specs.Objects.{field_in, fields_in}
use Rattle.dscript_sdk_values.specs.Outcomes.{Outcome, ◌>>=◌}
use Rattle.dscript_sdk_pips.specs.States.{Change, State}
use Rattle.dscript_sdk_pips.specs.WriteAllText.{with_write}

-- each line and a newline
abbrev pub text_of_lines : List (List ℕ) → List ℕ
text_of_lines lines = flat_map (λ line. line ++ codes "\n") lines

-- the text of the lines, if it is short enough
abbrev pub whole_text : List (List ℕ) → Outcome (List ℕ)
whole_text lines =
    if nat_le (length (text_of_lines lines)) MAX_TEXT_BYTES then Ok (text_of_lines lines) else Err Range

-- what the argument asks for
abbrev pub written_lines : List Plain → Outcome WriteDesc
written_lines args =
    one_of args >>= fields_in (codes "outputPath" ∷ codes "lines" ∷ []) [] >>= λ fields.
    field_in fields (codes "outputPath") path_in >>= λ to.
    field_in fields (codes "lines") (list_in text_in) >>= λ lines.
    whole_text lines >>= λ text.
    Ok (record { to = to; text = text })

unfoldable pub write_all_lines : Atoms → List Plain → State → Change
write_all_lines spec args s = written_lines args >>= λ d. with_write spec d s
