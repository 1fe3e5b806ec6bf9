-- The ambient calls.
use Rattle.std.specs.Prelude.{true, false, List}
use Rattle.bx_tree.specs.Paths.{Atoms}
use Rattle.dscript_program.specs.declared.ambient.Ambient.{Ambient}
use Rattle.dscript_program.specs.declared.ambient.Ambient.TheVariants as calls
use Rattle.dscript_value.specs.Plain.{Plain}
use Rattle.dscript_sdk_calls.specs.ArtifactInput.{artifact_input}
use Rattle.dscript_sdk_calls.specs.ArtifactNone.{artifact_none}
use Rattle.dscript_sdk_calls.specs.ArtifactOutput.{artifact_output}
use Rattle.dscript_sdk_calls.specs.CmdArgument.{cmd_argument}
use Rattle.dscript_sdk_calls.specs.CmdFlag.{cmd_flag}
use Rattle.dscript_sdk_calls.specs.CmdOption.{cmd_option}
use Rattle.dscript_sdk_calls.specs.ContractAssert.{contract_assert}
use Rattle.dscript_sdk_calls.specs.ContractFail.{contract_fail}
use Rattle.dscript_sdk_pips.specs.CopyFile.{copy_file}
use Rattle.dscript_sdk_execute.specs.Execute.{execute}
use Rattle.dscript_sdk_calls.specs.Globs.{glob_files}
use Rattle.dscript_sdk_pips.specs.NewOutputDirectory.{new_output_directory}
use Rattle.dscript_sdk_pips.specs.SealDirectory.{seal_directory}
use Rattle.dscript_sdk_pips.specs.SealPartialDirectory.{seal_partial_directory}
use Rattle.dscript_sdk_pips.specs.SealSourceDirectory.{seal_source_directory}
use Rattle.dscript_sdk_pips.specs.States.{Change, State, asking, unchanged}
use Rattle.dscript_sdk_pips.specs.WriteAllLines.{write_all_lines}
use Rattle.dscript_sdk_pips.specs.WriteAllText.{write_all_text}

-- what a call in a specification file comes to at its arguments
unfoldable pub call_of : Ambient → Atoms → List Plain → State → Change
call_of calls.WriteAllText spec args s = write_all_text spec args s
call_of calls.WriteAllLines spec args s = write_all_lines spec args s
call_of calls.CopyFile spec args s = copy_file spec args s
call_of calls.SealDirectory spec args s = seal_directory spec args s
call_of calls.SealPartialDirectory spec args s = seal_partial_directory spec args s
call_of calls.SealSourceDirectory spec args s = seal_source_directory spec args s
call_of calls.Execute spec args s = execute spec args s
call_of calls.CmdArgument spec args s = unchanged (cmd_argument args) s
call_of calls.CmdOption spec args s = unchanged (cmd_option args) s
call_of calls.CmdFlag spec args s = unchanged (cmd_flag args) s
call_of calls.ArtifactInput spec args s = unchanged (artifact_input args) s
call_of calls.ArtifactOutput spec args s = unchanged (artifact_output args) s
call_of calls.ArtifactNone spec args s = unchanged (artifact_none args) s
call_of calls.NewOutputDirectory spec args s = new_output_directory spec args s
call_of calls.Fail spec args s = unchanged (contract_fail args) s
call_of calls.Assert spec args s = unchanged (contract_assert args) s
call_of calls.Requires spec args s = unchanged (contract_assert args) s
call_of calls.Glob spec args s = asking (glob_files false args s.answers) s
call_of calls.GlobRecursive spec args s = asking (glob_files true args s.answers) s
