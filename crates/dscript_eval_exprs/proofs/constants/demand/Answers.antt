use Rattle.std.proofs.Common.{sym, arith}
use Rattle.dscript_eval_meaning.specs.Acts.{Demand}
use Rattle.dscript_eval_frames.specs.Views.{seen}
use Rattle.dscript_eval_frames.proofs.Opening.{none_openable}
use Rattle.dscript_eval_exprs.proofs.ConstantMoves.{no_constant}
use Rattle.dscript_eval_frames.proofs.Refused.{faulted}
use Rattle.dscript_eval_exprs.proofs.constants.demand.Goals as goal

pub returns-then-machine-eq0 : goal.returns-then-machine-eq0
returns-then-machine-eq0 c =
    faulted _ _ _ _ c.fault.ensures
    (none_openable (seen c.args.machine.now) (Demand c.args.file c.args.decl) c.if-machine-eq0.true)

pub returns-in-Some : goal.returns-in-Some
returns-in-Some c =
    c.evaluate_constant.ensures (sym c.in-Some.ensures)

pub returns-in-None : goal.returns-in-None
returns-in-None c =
    faulted _ _ _ _ c.fault-in-None.ensures
    (no_constant (seen c.args.machine.now) c.args.file c.args.decl (omega arith) (sym c.in-None.ensures))
