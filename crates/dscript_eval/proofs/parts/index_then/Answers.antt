use Rattle.std.proofs.Common.{ap, length, sym, ◌∙◌}
use Rattle.std.proofs.lemmas.Bool.{eqb-true}
use Rattle.dscript_value.specs.Plain.{plain_of}
use Rattle.dscript_eval_operators.specs.Indexing.{indexed}
use Rattle.dscript_eval_meaning.specs.Evaluating.{answered}
use Rattle.dscript_eval_frames.specs.Views.{View, seen}
use Rattle.dscript_eval_frames.specs.Works.{comes_with}
use Rattle.dscript_eval_frames.specs.declared.work.ExprWork.TheVariants as expr
use Rattle.dscript_eval_frames.specs.declared.work.Work.TheVariants as works
use Rattle.dscript_eval_frames.proofs.Kept.{keeps_at, memory_stops}
use Rattle.dscript_eval.proofs.PartMoves.{last_part}
use Rattle.dscript_eval.proofs.parts.index_then.Goals as goal

pub returns-then-is_empty : goal.returns-then-is_empty
returns-then-is_empty c =
    let v = seen c.args.machine.now in
    keeps_at _ _ _ _
    (last_part v (answered (indexed (plain_of c.args.subject.now) v.given)) c.args.others
    (eqb-true (length c.args.others.now) 0 (sym c.is_empty.ensures ∙ c.if-is_empty.true)))
    c.index_value.ensures

pub returns-in-Ok : goal.returns-in-Ok
returns-in-Ok c =
    keeps_at _ _ _ _ (ap (λ (z : View). comes_with (works.Expr (expr.Index c.args.subject.now)) z) (sym c.in-Ok.ensures))
    c.index_value-in-Ok.ensures

pub returns-in-Err : goal.returns-in-Err
returns-in-Err c = memory_stops _ _ c.in-Err.ensures
