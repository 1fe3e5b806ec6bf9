use Rattle.std.proofs.Common.{ap}
use Rattle.dscript_eval_frames.specs.Views.{seen}
use Rattle.dscript_eval_frames.specs.declared.work.Work.TheVariants as works
use Rattle.dscript_eval.proofs.Turns.{done_as}
use Rattle.dscript_eval.proofs.running.turn_call.Goals as goal

pub returns-in-Arguments : goal.returns-in-Arguments
returns-in-Arguments c = done_as _ (seen c.args.machine.now) _ _ _ (ap works.Call c.in-Arguments.is) c.arguments.ensures

pub returns-in-Argument : goal.returns-in-Argument
returns-in-Argument c = done_as _ (seen c.args.machine.now) _ _ _ (ap works.Call c.in-Argument.is) c.argument.ensures

pub returns-in-Loop : goal.returns-in-Loop
returns-in-Loop c = done_as _ (seen c.args.machine.now) _ _ _ (ap works.Call c.in-Loop.is) c.callbacks_from.ensures

pub returns-in-Came : goal.returns-in-Came
returns-in-Came c = done_as _ (seen c.args.machine.now) _ _ _ (ap works.Call c.in-Came.is) c.came.ensures
