-- What a value is as an argument of a process.
use Rattle.std.specs.Prelude.{ℕ, nat_le, if◌then◌else◌, List, ◌++◌, length, codes}
use Rattle.std.specs.Prelude.{Some, None, Ok, Err}
use Rattle.std.specs.Fmt.{signed_decimal}
use Rattle.bx_tree.specs.Paths.{Atoms, path_text}
use Rattle.dscript_value.specs.Equality.{artifact_path}
use Rattle.dscript_value.specs.declared.parts.Artifact.{Artifact as AnyArtifact}
use Rattle.dscript_value.specs.Plain as plain
use Rattle.dscript_value.specs.Plain.{Plain}
use Rattle.dscript_sdk_values.specs.declared.fault.SdkFault.TheVariants.{Kind, Range}
use Rattle.dscript_sdk_values.specs.declared.limits.TheConstants.{MAX_TEXT_BYTES}
use Rattle.dscript_sdk_values.specs.Outcomes.{Outcome}
use Rattle.bx_tree.specs.FileInputs.{input_path}
use Rattle.dscript_sdk_values.specs.PathTexts.{path_argument}

abbrev pub no_argument : Plain
no_argument = plain.Argument (record { text = None; artifact = None })

-- a text with the one that follows it, if both together are short enough
abbrev pub text_argument : List ℕ → List ℕ → Outcome Plain
text_argument before text =
    if nat_le (length (before ++ text)) MAX_TEXT_BYTES
    then Ok (plain.Argument (record { text = Some (before ++ text); artifact = None })) else Err Range

-- a text that an artifact's path follows, if both together are short enough
abbrev pub artifact_argument : List ℕ → AnyArtifact → Outcome Plain
artifact_argument before artifact =
    if nat_le (length (before ++ path_argument (artifact_path artifact))) MAX_TEXT_BYTES
    then Ok (plain.Argument (record { text = Some before; artifact = Some artifact })) else Err Range

-- one argument: a text, and then the value; none where the value is undefined
abbrev pub argument_after : List ℕ → Plain → Outcome Plain
argument_after before plain.Undefined = Ok no_argument
argument_after before (plain.Text text) = text_argument before text
argument_after before (plain.Number number) = text_argument before (signed_decimal number)
argument_after before (plain.Path path) = text_argument before (path_argument path)
argument_after before (plain.File file) = text_argument before (path_argument (input_path file))
argument_after before (plain.Directory path) = text_argument before (path_argument path)
argument_after before (plain.Atom atom) = text_argument before atom
argument_after before (plain.Artifact artifact) = artifact_argument before artifact
argument_after before _ = Err Kind
