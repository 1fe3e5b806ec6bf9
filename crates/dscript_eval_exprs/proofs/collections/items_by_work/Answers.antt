use Rattle.std.proofs.Common.{ap, ◌∙◌}
use Rattle.dscript_program.specs.BoundTree as tree
use Rattle.dscript_program.specs.Views.{expr_data}
use Rattle.dscript_eval_frames.specs.Views.{seen}
use Rattle.dscript_eval_exprs.proofs.CollectionMoves.{element_move, items_end, spread_move}
use Rattle.dscript_eval_frames.proofs.Kept.{keeps_at, kept}
use Rattle.dscript_eval_exprs.proofs.collections.items_by_work.Goals as goal

pub returns-in_default : goal.returns-in_default
returns-in_default c =
    keeps_at _ _ _ _ (items_end (seen c.args.machine.now) c.args.es c.args.done c.in_default.ensures.cases)
    (c.finish.ensures _ c.grown_list.ensures)

pub returns-then-is_spread : goal.returns-then-is_spread
returns-then-is_spread c =
    kept _ _ _ _ c.push_two.ensures
    (spread_move (seen c.args.machine.now) c.args.es c.in-Some.others c.in-Some.element.now c.element_parts-is_spread.result.1 c.args.done
    c.in-Some.ensures.cases.0
    (c.element_parts-is_spread.ensures
    ∙ ap (λ b. tree.Element b (expr_data c.element_parts-is_spread.result.1.now)) c.if-is_spread.true))

pub returns : goal.returns
returns c =
    kept _ _ _ _ c.push_two-2.ensures
    (element_move (seen c.args.machine.now) c.args.es c.in-Some.others c.in-Some.element.now c.element_parts-is_spread.result.1 c.args.done
    c.in-Some.ensures.cases.0
    (c.element_parts-is_spread.ensures
    ∙ ap (λ b. tree.Element b (expr_data c.element_parts-is_spread.result.1.now)) c.if-is_spread.false))
