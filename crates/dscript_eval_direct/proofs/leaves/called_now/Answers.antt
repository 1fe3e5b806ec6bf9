use Rattle.std.proofs.Common.{map}
use Rattle.dscript_program.specs.declared.ambient.Ambient.TheVariants as calls
use Rattle.dscript_value.specs.Plain.{plain_of}
use Rattle.dscript_eval_direct.proofs.Finds.{artifact_input_is, artifact_none_is, artifact_output_is, calls_give, cmd_argument_is}
use Rattle.dscript_eval_direct.proofs.Finds.{cmd_flag_is, cmd_option_is}
use Rattle.dscript_eval_direct.proofs.leaves.called_now.Goals as goal

pub returns-in-CmdArgument : goal.returns-in-CmdArgument
returns-in-CmdArgument c =
    calls_give _ c.args.name calls.CmdArgument (map plain_of c.args.args.now) _ c.in-CmdArgument.is (cmd_argument_is (map plain_of c.args.args.now))
    (c.made.ensures _ c.cmd_argument.ensures)

pub returns-in-CmdOption : goal.returns-in-CmdOption
returns-in-CmdOption c =
    calls_give _ c.args.name calls.CmdOption (map plain_of c.args.args.now) _ c.in-CmdOption.is (cmd_option_is (map plain_of c.args.args.now))
    (c.made-in-CmdOption.ensures _ c.cmd_option.ensures)

pub returns-in-CmdFlag : goal.returns-in-CmdFlag
returns-in-CmdFlag c =
    calls_give _ c.args.name calls.CmdFlag (map plain_of c.args.args.now) _ c.in-CmdFlag.is (cmd_flag_is (map plain_of c.args.args.now))
    (c.made-in-CmdFlag.ensures _ c.cmd_flag.ensures)

pub returns-in-ArtifactInput : goal.returns-in-ArtifactInput
returns-in-ArtifactInput c =
    calls_give _ c.args.name calls.ArtifactInput (map plain_of c.args.args.now) _ c.in-ArtifactInput.is (artifact_input_is (map plain_of c.args.args.now))
    (c.made-in-ArtifactInput.ensures _ c.artifact_input.ensures)

pub returns-in-ArtifactOutput : goal.returns-in-ArtifactOutput
returns-in-ArtifactOutput c =
    calls_give _ c.args.name calls.ArtifactOutput (map plain_of c.args.args.now) _ c.in-ArtifactOutput.is (artifact_output_is (map plain_of c.args.args.now))
    (c.made-in-ArtifactOutput.ensures _ c.artifact_output.ensures)

pub returns-in-ArtifactNone : goal.returns-in-ArtifactNone
returns-in-ArtifactNone c =
    calls_give _ c.args.name calls.ArtifactNone (map plain_of c.args.args.now) _ c.in-ArtifactNone.is (artifact_none_is (map plain_of c.args.args.now))
    (c.made-in-ArtifactNone.ensures _ c.artifact_none.ensures)
