use Rattle.std.proofs.Common.{sym, ◌∙◌}
use Rattle.dscript_eval_frames.specs.Views.{seen}
use Rattle.dscript_eval.proofs.CallbackMoves.{came_dropped, came_kept}
use Rattle.dscript_eval.proofs.CallsNow.{left_after}
use Rattle.dscript_eval_frames.proofs.ItemLists.{ends_in}
use Rattle.dscript_eval.proofs.callbacks.keep_item.Goals as goal

pub returns-then-not-is_true : goal.returns-then-not-is_true
returns-then-not-is_true c kind =
    left_after _ _ _ _ (seen c.args.machine.now) c.go_on.ensures
    (came_dropped (seen c.args.machine.now) c.args.callbacks.now kind (sym c.is_true.ensures ∙ c.if-not-is_true.true))

pub returns : goal.returns
returns c kind =
    left_after _ _ _ _ (seen c.args.machine.now) c.go_on-2.ensures
    (came_kept (seen c.args.machine.now) c.args.callbacks.now c.push_item.new.items kind (sym c.is_true.ensures ∙ c.if-not-is_true.false)
    (ends_in _ _ _ _ c.in_ok-push_item.ensures c.in_ok-item.ensures))
