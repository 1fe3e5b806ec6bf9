use Rattle.std.proofs.Common.{◌∷◌, ap, length, sym, ◌∙◌, arith}
use Rattle.dscript_eval_frames.specs.Views.{View, seen}
use Rattle.dscript_eval_frames.specs.Works.{comes}
use Rattle.dscript_eval_frames.specs.declared.work.Work.{Work}
use Rattle.dscript_eval_frames.proofs.Kept.{keeps_at}
use Rattle.dscript_eval.proofs.StmtMoves.{left_body, nothing_left, passed_over}
use Rattle.dscript_eval.proofs.statements.unwind.Goals as goal

pub returns-in-Leave : goal.returns-in-Leave
returns-in-Leave c =
    let w = seen c.next_work.new.self in
    keeps_at _ _ _ _
    (c.work.invariant
    ∙ left_body _ w c.in-Leave.frame (c.in-Some.ensures ∙ ap (λ (x : Work). record w { work = x ∷ w.work }) c.in-Leave.is))
    c.leave.ensures

pub work-preserved : goal.work-preserved
work-preserved c =
    c.work.invariant ∙ passed_over _ (seen c.next_work.new.self) c.in-Some.work c.in-Some.ensures c.in_default-work.not-Leave

pub work-smaller : goal.work-smaller
work-smaller c = omega (arith, ap (λ (v : View). length v.work) c.in-Some.ensures)

pub returns : goal.returns
returns c = c.work.invariant ∙ nothing_left _ c.in_default.ensures.0 ∙ ap comes (sym c.in_default.ensures.1)
