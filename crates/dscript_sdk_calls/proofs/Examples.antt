-- Worked examples of calls that change nothing.
use Rattle.std.proofs.Common.{◌≡◌, ℕ, List, [], ◌∷◌, Some, None, Ok, Err, codes, refl, true, false}
use Rattle.bx_tree.specs.Paths.{Atoms}
use Rattle.bx_tree.specs.Trees.{Files}
use Rattle.bx_tree.specs.declared.file_input.FileInput.TheVariants.{Source, Made}
use Rattle.dscript_value.specs.declared.parts.Artifact.TheVariants as artifacts
use Rattle.dscript_value.specs.declared.parts.StaticDir.TheVariants.{Opaque}
use Rattle.dscript_value.specs.Plain as plain
use Rattle.dscript_value.specs.Plain.{Plain, to_items}
use Rattle.dscript_sdk_values.specs.declared.fault.SdkFault.TheVariants.{BadArgument, Kind, User}
use Rattle.dscript_sdk_calls.specs.ArgumentTexts.{no_argument}
use Rattle.dscript_sdk_calls.specs.ArtifactInput.{artifact_input}
use Rattle.dscript_sdk_calls.specs.ArtifactNone.{artifact_none}
use Rattle.dscript_sdk_calls.specs.ArtifactOutput.{artifact_output}
use Rattle.dscript_sdk_calls.specs.CmdArgument.{cmd_argument}
use Rattle.dscript_sdk_calls.specs.CmdFlag.{cmd_flag}
use Rattle.dscript_sdk_calls.specs.CmdOption.{cmd_option}
use Rattle.dscript_sdk_calls.specs.ContractAssert.{contract_assert}
use Rattle.dscript_sdk_calls.specs.ContractFail.{contract_fail}
use Rattle.dscript_sdk_calls.specs.Globs.{glob_files}
use Rattle.dscript_sdk_calls.specs.Sources.{files_below, files_found, tree_answers}
use Rattle.dscript_sdk_calls.specs.declared.tree_ask.TreeAsk.TheVariants.{Glob, GlobDeep}

abbrev a : Atoms
a = codes "s" ∷ codes "a" ∷ []

abbrev text : List ℕ → Plain
text bytes = plain.Text bytes

abbrev argument : List ℕ → Plain
argument bytes = plain.Argument (record { text = Some bytes; artifact = None })

-- ## Arguments of processes

a_missing_argument_is_not_undefined : cmd_argument [] ≡ Err BadArgument
unfolding cmd_argument
a_missing_argument_is_not_undefined = refl

undefined_is_no_argument : cmd_argument (plain.Undefined ∷ []) ≡ Ok no_argument
unfolding cmd_argument
undefined_is_no_argument = refl

a_path_begins_with_a_slash : cmd_argument (plain.Path a ∷ []) ≡ Ok (argument (codes "/s/a"))
unfolding cmd_argument
a_path_begins_with_a_slash = refl

a_flag_is_no_argument : cmd_argument (plain.Flag true ∷ []) ≡ Err Kind
unfolding cmd_argument
a_flag_is_no_argument = refl

an_option_is_one_argument : cmd_option (text (codes "-n") ∷ text (codes "x") ∷ []) ≡ Ok (argument (codes "-nx"))
unfolding cmd_option
an_option_is_one_argument = refl

an_undefined_option_is_none : cmd_option (text (codes "-n") ∷ plain.Undefined ∷ []) ≡ Ok no_argument
unfolding cmd_option
an_undefined_option_is_none = refl

the_text_comes_before_the_value : cmd_option (plain.Undefined ∷ plain.Flag true ∷ []) ≡ Err Kind
unfolding cmd_option
the_text_comes_before_the_value = refl

a_true_flag_is_its_text : cmd_flag (text (codes "-v") ∷ plain.Flag true ∷ []) ≡ Ok (argument (codes "-v"))
unfolding cmd_flag
a_true_flag_is_its_text = refl

a_false_flag_is_none : cmd_flag (text (codes "-v") ∷ plain.Flag false ∷ []) ≡ Ok no_argument
unfolding cmd_flag
a_false_flag_is_none = refl

a_flag_wants_two_arguments : cmd_flag (text (codes "-v") ∷ []) ≡ Err BadArgument
unfolding cmd_flag
a_flag_wants_two_arguments = refl

-- ## Artifacts

a_static_directory_is_an_input
    : artifact_input (plain.Static (Opaque 1 a) ∷ []) ≡ Ok (plain.Artifact (artifacts.InputDir (Opaque 1 a)))
unfolding artifact_input
a_static_directory_is_an_input = refl

a_path_is_no_input : artifact_input (plain.Path a ∷ []) ≡ Err Kind
unfolding artifact_input
a_path_is_no_input = refl

a_directory_is_an_output : artifact_output (plain.Directory a ∷ []) ≡ Ok (plain.Artifact (artifacts.OutputDir a))
unfolding artifact_output
a_directory_is_an_output = refl

a_file_is_no_output : artifact_output (plain.File (Source a) ∷ []) ≡ Err Kind
unfolding artifact_output
a_file_is_no_output = refl

a_made_file_is_a_path_alone : artifact_none (plain.File (Made a 3) ∷ []) ≡ Ok (plain.Artifact (artifacts.Plain a))
unfolding artifact_none
a_made_file_is_a_path_alone = refl

-- ## Assertions

a_failure_has_its_message : contract_fail (text (codes "no") ∷ []) ≡ Err (User (codes "no"))
unfolding contract_fail
a_failure_has_its_message = refl

a_true_assertion_is_undefined : contract_assert (plain.Flag true ∷ text [] ∷ []) ≡ Ok plain.Undefined
unfolding contract_assert
a_true_assertion_is_undefined = refl

a_true_assertion_has_a_text_too : contract_assert (plain.Flag true ∷ plain.Undefined ∷ []) ≡ Err Kind
unfolding contract_assert
a_true_assertion_has_a_text_too = refl

-- ## Globs

abbrev sources : Files
sources = (a, []) ∷ (codes "t" ∷ [], []) ∷ []

abbrev sources_of : List Plain → Plain
sources_of files = plain.Listed 1 (to_items files)

a_glob_is_of_its_directory
    : glob_files false (plain.Directory [] ∷ text (codes "*") ∷ []) (tree_answers sources)
    ≡ Ok (sources_of (plain.File (Source (codes "t" ∷ [])) ∷ []), Glob [] (codes "*"))
unfolding glob_files files_found
a_glob_is_of_its_directory = refl

a_deep_glob_goes_below
    : glob_files true (plain.Directory [] ∷ text (codes "a") ∷ []) (tree_answers sources)
    ≡ Ok (sources_of (plain.File (Source a) ∷ []), GlobDeep [] (codes "a"))
unfolding glob_files files_found
a_deep_glob_goes_below = refl

an_empty_pattern_is_refused : glob_files false (plain.Directory [] ∷ text [] ∷ []) (tree_answers sources) ≡ Err BadArgument
unfolding glob_files
an_empty_pattern_is_refused = refl

the_directory_comes_before_the_pattern : glob_files false (plain.Path [] ∷ text [] ∷ []) (tree_answers sources) ≡ Err Kind
unfolding glob_files
the_directory_comes_before_the_pattern = refl

a_directory_is_not_below_itself : files_below sources a ≡ []
unfolding files_below
a_directory_is_not_below_itself = refl
