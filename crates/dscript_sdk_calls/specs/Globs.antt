-- `glob` and `globR`: source files whose last atom matches a pattern.
use Rattle.std.specs.Prelude.{ℕ, Bool, ◌&&◌, nat_le, if◌then◌else◌, List, length, map, Ok, Err}
use Rattle.std.specs.List.{list_all}
use Rattle.bx_tree.specs.declared.file_input.FileInput.TheVariants.{Source}
use Rattle.bx_path.specs.Globbing.{is_pattern, is_pattern_byte}
use Rattle.bx_path.specs.declared.globbing.TheConstants.{MAX_PATTERN_BYTES}
use Rattle.dscript_value.specs.Plain as plain
use Rattle.dscript_value.specs.Plain.{Plain}
use Rattle.dscript_sdk_values.specs.declared.fault.SdkFault.TheVariants.{BadArgument}
use Rattle.dscript_sdk_values.specs.Answers.{list_answer}
use Rattle.dscript_sdk_values.specs.Arguments.{two_of}
use Rattle.dscript_sdk_values.specs.Kinds.{directory_in, text_in}
use Rattle.dscript_sdk_values.specs.Outcomes.{Outcome, ◌>>=◌}
use Rattle.dscript_sdk_calls.specs.Sources.{Answers, glob_ask}
use Rattle.dscript_sdk_calls.specs.declared.tree_ask.TreeAsk.{TreeAsk}

abbrev pub pattern_in : Plain → Outcome (List ℕ)
pattern_in v = text_in v >>= λ text. if is_pattern text then Ok text else Err BadArgument

-- source files as values, in their order
abbrev pub source_values : List (List (List ℕ)) → List Plain
source_values paths = map (λ path. plain.File (Source path)) paths

-- what a glob asks at its arguments
abbrev pub asked_glob : Bool → List Plain → Outcome TreeAsk
asked_glob deep args =
    two_of args >>= λ two.
    directory_in two.0 >>= λ dir.
    pattern_in two.1 >>= λ pattern.
    Ok (glob_ask deep dir pattern)

-- the files that it is answered
abbrev pub found_files : List (List (List ℕ)) → Outcome Plain
found_files paths = list_answer (source_values paths)

-- a glob: the files that it is answered, and what it asked
unfoldable pub glob_files : Bool → List Plain → Answers → Outcome (Plain × TreeAsk)
glob_files deep args answers =
    asked_glob deep args >>= λ ask. found_files (answers ask) >>= λ files. Ok (files, ask)
