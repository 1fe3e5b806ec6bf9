use Rattle.std.proofs.Common.{Option, ap, sym}
use Rattle.dscript_program.specs.ProgramData.{KindData}
use Rattle.dscript_eval_meaning.specs.Expressions.{declared}
use Rattle.dscript_eval_frames.specs.Forms.{acts_at}
use Rattle.dscript_eval_frames.specs.Views.{seen}
use Rattle.dscript_eval_frames.specs.Works.{comes_by}
use Rattle.dscript_eval_frames.proofs.Kept.{keeps_at}
use Rattle.dscript_eval_exprs.proofs.NameMoves.{not_declared}
use Rattle.dscript_eval_frames.proofs.Refused.{faulted}
use Rattle.dscript_eval_exprs.proofs.names.declared.Goals as goal

pub returns-in-Some : goal.returns-in-Some
returns-in-Some c =
    let v = seen c.args.machine.now in
    keeps_at _ _ _ _
    (ap (λ (k : Option KindData). comes_by (declared (acts_at v) c.args.file c.args.decl k) v) (sym c.in-Some.ensures))
    c.declared_as.ensures

pub returns-in-None : goal.returns-in-None
returns-in-None c =
    faulted _ _ _ _ c.fault.ensures (not_declared (seen c.args.machine.now) c.args.file c.args.decl _ (sym c.in-None.ensures))
