use Rattle.std.proofs.Common.{List, ap, map, sym, ◌∙◌}
use Rattle.dscript_value.specs.Plain.{plain_of}
use Rattle.dscript_value.specs.declared.value.Value.{Value}
use Rattle.dscript_eval_frames.specs.Forms.{acts_at}
use Rattle.dscript_eval_frames.specs.Views.{seen}
use Rattle.dscript_eval_frames.specs.Works.{comes_by, used}
use Rattle.dscript_eval.proofs.CallMoves.{arguments_end, arguments_move}
use Rattle.dscript_eval_frames.proofs.Kept.{keeps_at, kept}
use Rattle.dscript_eval.proofs.calls.arguments_by_work.Goals as goal

pub returns-in-Some : goal.returns-in-Some
returns-in-Some c =
    kept _ _ _ _ c.push_two.ensures
    (arguments_move (seen c.args.machine.now) c.args.es c.in-Some.others c.in-Some.e c.args.done c.args.for_call c.in-Some.ensures.cases.0)

pub returns-in-None : goal.returns-in-None
returns-in-None c =
    let v = seen c.args.machine.now in
    keeps_at _ _ _ _
    (arguments_end v c.args.es c.args.done c.args.for_call c.in-None.ensures.cases
    ∙ ap (λ (xs : List Value). comes_by (used v.program (acts_at v) c.args.for_call (map plain_of xs)) v) (sym c.as_slice.ensures.value))
    c.use_arguments-outcome.ensures
