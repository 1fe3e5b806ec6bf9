use Rattle.std.proofs.Common.{ap}
use Rattle.dscript_eval_frames.specs.Views.{seen}
use Rattle.dscript_eval_frames.specs.declared.work.Work.TheVariants as works
use Rattle.dscript_eval.proofs.Turns.{done_as}
use Rattle.dscript_eval.proofs.running.turn_stmt.Goals as goal

pub returns-in-Does : goal.returns-in-Does
returns-in-Does c = done_as _ (seen c.args.machine.now) _ _ _ (ap works.Stmt c.in-Does.is) c.does.ensures

pub returns-in-All : goal.returns-in-All
returns-in-All c = done_as _ (seen c.args.machine.now) _ _ _ (ap works.Stmt c.in-All.is) c.all.ensures

pub returns-in-Bind : goal.returns-in-Bind
returns-in-Bind c = done_as _ (seen c.args.machine.now) _ _ _ (ap works.Stmt c.in-Bind.is) c.bind.ensures

pub returns-in-Branch : goal.returns-in-Branch
returns-in-Branch c = done_as _ (seen c.args.machine.now) _ _ _ (ap works.Stmt c.in-Branch.is) c.branch-machine.ensures

pub returns-in-Start : goal.returns-in-Start
returns-in-Start c = done_as _ (seen c.args.machine.now) _ _ _ (ap works.Stmt c.in-Start.is) c.start.ensures

pub returns-in-Turns : goal.returns-in-Turns
returns-in-Turns c = done_as _ (seen c.args.machine.now) _ _ _ (ap works.Stmt c.in-Turns.is) c.turns.ensures

pub returns-in-Return : goal.returns-in-Return
returns-in-Return c = done_as _ (seen c.args.machine.now) _ _ _ (ap works.Stmt c.in-Return.is) c.unwind.ensures

pub returns-in-Forget : goal.returns-in-Forget
returns-in-Forget c = done_as _ (seen c.args.machine.now) _ _ _ (ap works.Stmt c.in-Forget.is) c.forget.ensures

pub returns-in-Demands : goal.returns-in-Demands
returns-in-Demands c = done_as _ (seen c.args.machine.now) _ _ _ (ap works.Stmt c.in-Demands.is) c.demands.ensures
