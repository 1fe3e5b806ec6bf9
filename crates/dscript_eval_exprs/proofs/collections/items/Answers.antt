use Rattle.std.proofs.Common.{ap, sym, ◌∙◌}
use Rattle.dscript_program.specs.BoundTree as tree
use Rattle.dscript_program.specs.Views.{expr_data}
use Rattle.dscript_eval_frames.specs.Views.{View, seen}
use Rattle.dscript_eval_frames.specs.Works.{comes_with}
use Rattle.dscript_eval_frames.specs.declared.work.ExprWork.TheVariants as expr
use Rattle.dscript_eval_frames.specs.declared.work.Work.TheVariants as works
use Rattle.dscript_eval_frames.proofs.ItemLists.{ends_in}
use Rattle.dscript_eval_frames.proofs.Kept.{keeps_at}
use Rattle.dscript_eval_exprs.proofs.AtOnce.{given_then}
use Rattle.dscript_eval_exprs.proofs.CollectionMoves.{element_move, item_move}
use Rattle.dscript_eval_exprs.proofs.collections.items.Goals as goal

pub returns-then-is_spread : goal.returns-then-is_spread
returns-then-is_spread c = keeps_at _ _ _ _ c.elements.invariant c.items_by_work.ensures

pub returns-then-not-at_once : goal.returns-then-not-at_once
returns-then-not-at_once c =
    keeps_at _ _ _ _
    (c.elements.invariant
    ∙ ap (λ (z : View). comes_with (works.Expr (expr.Items c.elements.left c.elements.made)) z)
    (sym (c.at_once.ensures.none c.if-not-at_once.true)))
    c.items_by_work-then-not-at_once.ensures

pub elements-preserved : goal.elements-preserved
elements-preserved c =
    let e = c.element_parts-is_spread.result.1 in
    c.elements.invariant
    ∙ element_move (seen c.elements.machine) c.elements.left c.in-Some.others c.in-Some.element.now e c.elements.made
    c.in-Some.ensures.cases.0
    (c.element_parts-is_spread.ensures ∙ ap (λ b. tree.Element b (expr_data e.now)) c.if-is_spread.false)
    ∙ given_then (seen c.elements.machine) _ e (works.Expr (expr.Item c.in-Some.others c.elements.made))
    (c.at_once.ensures.given c.if-not-at_once.false)
    ∙ item_move _ _ c.in-Some.others c.elements.made c.push_item.new.items
    (ends_in _ _ _ _ c.in_ok-push_item.ensures c.take-item.ensures.value) c.take-item.ensures.taken

pub returns : goal.returns
returns c = keeps_at _ _ _ _ c.elements.invariant c.items_by_work-2.ensures
