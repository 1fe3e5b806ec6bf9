use Rattle.std.proofs.Common.{length, sym, ◌∙◌}
use Rattle.std.proofs.lemmas.Bool.{eqb-true}
use Rattle.dscript_eval_frames.specs.Views.{seen}
use Rattle.dscript_eval_frames.proofs.Kept.{keeps_at, kept}
use Rattle.dscript_eval.proofs.StmtMoves.{all_end, all_last, all_move}
use Rattle.dscript_eval.proofs.statements.one_by_one.Goals as goal

pub returns-then-is_empty : goal.returns-then-is_empty
returns-then-is_empty c =
    kept _ _ _ _ c.push.ensures
    (all_last (seen c.args.machine.now) c.args.statements c.in-Some.others c.in-Some.first c.in-Some.ensures.cases.0
    (eqb-true (length c.in-Some.others.now) 0 (sym c.is_empty.ensures ∙ c.if-is_empty.true)))

pub returns-else-is_empty : goal.returns-else-is_empty
returns-else-is_empty c =
    kept _ _ _ _ c.push_two.ensures
    (all_move (seen c.args.machine.now) c.args.statements c.in-Some.others c.in-Some.first c.in-Some.ensures.cases.0)

pub returns-in-None : goal.returns-in-None
returns-in-None c =
    keeps_at _ _ _ _ (all_end (seen c.args.machine.now) c.args.statements c.in-None.ensures.cases) c.forget.ensures
