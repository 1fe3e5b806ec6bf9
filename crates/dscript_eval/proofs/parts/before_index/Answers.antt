use Rattle.std.proofs.Common.{◌∙◌}
use Rattle.dscript_eval_frames.specs.Views.{seen}
use Rattle.dscript_eval_frames.proofs.Kept.{keeps_at, kept}
use Rattle.dscript_eval.proofs.PartMoves.{index_move, index_next, index_now}
use Rattle.dscript_eval.proofs.parts.before_index.Goals as goal

pub returns-then-at_once : goal.returns-then-at_once
returns-then-at_once c =
    keeps_at _ _ _ _
    (index_move (seen c.args.machine.now) _ c.args.e c.args.others c.take-subject.result c.take-subject.ensures.value
    c.take-subject.ensures.taken
    ∙ index_now _ _ c.args.e c.args.others c.take-subject.result (c.at_once.ensures.given c.if-at_once.true))
    c.index_then-outcome.ensures

pub returns : goal.returns
returns c =
    kept _ _ _ _ c.push_three.ensures
    (index_move (seen c.args.machine.now) _ c.args.e c.args.others c.take-subject.result c.take-subject.ensures.value
    c.take-subject.ensures.taken
    ∙ index_next _ _ c.args.e c.args.others c.take-subject.result (c.at_once.ensures.none c.if-at_once.false))
