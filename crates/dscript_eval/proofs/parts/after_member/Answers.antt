use Rattle.std.proofs.Common.{◌∙◌}
use Rattle.std.proofs.lemmas.Bool.{both_ways}
use Rattle.dscript_eval_frames.specs.Views.{seen}
use Rattle.dscript_eval_frames.proofs.Kept.{keeps_at}
use Rattle.dscript_eval.proofs.PartMoves.{method_move}
use Rattle.dscript_eval.proofs.parts.after_member.Goals as goal

pub returns-then-has_function : goal.returns-then-has_function
returns-then-has_function c =
    let v = seen c.args.machine.now in
    keeps_at _ _ _ _
    (method_move v c.args.name c.args.parts c.in-Some.others c.in-Some.args c.in-Some.ensures
    (c.has_function.ensures v.state.calls ∙ c.if-has_function.true))
    c.before_method.ensures

pub returns-else-has_function : goal.returns-else-has_function
returns-else-has_function c =
    c.member_value.ensures (λ holds. c.has_function.ensures (seen c.args.machine.now).state.calls ∙ c.if-has_function.false)

pub returns-in-None : goal.returns-in-None
returns-in-None c = c.member_value-in-None.ensures (λ holds. absurd (both_ways _ c.in-None.ensures holds))
