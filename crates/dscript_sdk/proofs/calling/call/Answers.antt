use Rattle.std.proofs.Common.{map, refl}
use Rattle.dscript_program.specs.declared.ambient.Ambient.TheVariants as calls
use Rattle.dscript_value.specs.Plain.{plain_of}
use Rattle.dscript_sdk_calls.specs.CmdArgument.{cmd_argument}
use Rattle.dscript_sdk_calls.specs.CmdOption.{cmd_option}
use Rattle.dscript_sdk_calls.specs.CmdFlag.{cmd_flag}
use Rattle.dscript_sdk_calls.specs.ArtifactInput.{artifact_input}
use Rattle.dscript_sdk_calls.specs.ArtifactOutput.{artifact_output}
use Rattle.dscript_sdk_calls.specs.ArtifactNone.{artifact_none}
use Rattle.dscript_sdk_calls.specs.ContractFail.{contract_fail}
use Rattle.dscript_sdk_calls.specs.ContractAssert.{contract_assert}
use Rattle.dscript_sdk_pips.specs.States.{over_tree}
use Rattle.dscript_sdk.specs.Calls.{call_of}
use Rattle.dscript_sdk.proofs.Unchanged.{left_alone}
use Rattle.dscript_sdk.proofs.calling.call.Goals as goal

pub returns-in-CmdArgument-clause-answer : goal.returns-in-CmdArgument-clause-answer
unfolding call_of
returns-in-CmdArgument-clause-answer c =
    left_alone c.args.name calls.CmdArgument c.args.site.now.file (map plain_of c.args.args.now) (cmd_argument (map plain_of c.args.args.now))
    (over_tree c.args.state.now) c.cmd_argument.result c.in-CmdArgument.is refl c.cmd_argument.ensures

pub returns-in-CmdOption-clause-answer : goal.returns-in-CmdOption-clause-answer
unfolding call_of
returns-in-CmdOption-clause-answer c =
    left_alone c.args.name calls.CmdOption c.args.site.now.file (map plain_of c.args.args.now) (cmd_option (map plain_of c.args.args.now))
    (over_tree c.args.state.now) c.cmd_option.result c.in-CmdOption.is refl c.cmd_option.ensures

pub returns-in-CmdFlag-clause-answer : goal.returns-in-CmdFlag-clause-answer
unfolding call_of
returns-in-CmdFlag-clause-answer c =
    left_alone c.args.name calls.CmdFlag c.args.site.now.file (map plain_of c.args.args.now) (cmd_flag (map plain_of c.args.args.now))
    (over_tree c.args.state.now) c.cmd_flag.result c.in-CmdFlag.is refl c.cmd_flag.ensures

pub returns-in-ArtifactInput-clause-answer : goal.returns-in-ArtifactInput-clause-answer
unfolding call_of
returns-in-ArtifactInput-clause-answer c =
    left_alone c.args.name calls.ArtifactInput c.args.site.now.file (map plain_of c.args.args.now) (artifact_input (map plain_of c.args.args.now))
    (over_tree c.args.state.now) c.artifact_input.result c.in-ArtifactInput.is refl c.artifact_input.ensures

pub returns-in-ArtifactOutput-clause-answer : goal.returns-in-ArtifactOutput-clause-answer
unfolding call_of
returns-in-ArtifactOutput-clause-answer c =
    left_alone c.args.name calls.ArtifactOutput c.args.site.now.file (map plain_of c.args.args.now) (artifact_output (map plain_of c.args.args.now))
    (over_tree c.args.state.now) c.artifact_output.result c.in-ArtifactOutput.is refl c.artifact_output.ensures

pub returns-in-ArtifactNone-clause-answer : goal.returns-in-ArtifactNone-clause-answer
unfolding call_of
returns-in-ArtifactNone-clause-answer c =
    left_alone c.args.name calls.ArtifactNone c.args.site.now.file (map plain_of c.args.args.now) (artifact_none (map plain_of c.args.args.now))
    (over_tree c.args.state.now) c.artifact_none.result c.in-ArtifactNone.is refl c.artifact_none.ensures

pub returns-in-Fail-clause-answer : goal.returns-in-Fail-clause-answer
unfolding call_of
returns-in-Fail-clause-answer c =
    left_alone c.args.name calls.Fail c.args.site.now.file (map plain_of c.args.args.now) (contract_fail (map plain_of c.args.args.now))
    (over_tree c.args.state.now) c.contract_fail.result c.in-Fail.is refl c.contract_fail.ensures

pub returns-in-Assert-clause-answer : goal.returns-in-Assert-clause-answer
unfolding call_of
returns-in-Assert-clause-answer c =
    left_alone c.args.name calls.Assert c.args.site.now.file (map plain_of c.args.args.now) (contract_assert (map plain_of c.args.args.now))
    (over_tree c.args.state.now) c.contract_assert.result c.in-Assert.is refl c.contract_assert.ensures

pub returns-in-Requires-clause-answer : goal.returns-in-Requires-clause-answer
unfolding call_of
returns-in-Requires-clause-answer c =
    left_alone c.args.name calls.Requires c.args.site.now.file (map plain_of c.args.args.now) (contract_assert (map plain_of c.args.args.now))
    (over_tree c.args.state.now) c.contract_assert-in-Requires.result c.in-Requires.is refl c.contract_assert-in-Requires.ensures
