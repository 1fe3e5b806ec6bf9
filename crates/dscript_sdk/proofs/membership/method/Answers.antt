use Rattle.std.proofs.Common.{◌≡◌, Option, Ok, map, subst}
use Rattle.std.proofs.lemmas.Result.{err_from_is_err_and}
use Rattle.dscript_sdk_calls.specs.declared.tree_ask.TreeAsk.{TreeAsk}
use Rattle.dscript_sdk_pips.specs.States.{over_tree}
use Rattle.dscript_sdk_values.specs.Outcomes.{Refuses}
use Rattle.dscript_value.specs.Plain.{plain_of}
use Rattle.dscript_sdk.specs.Members.{answer_with, method_answer, method_of}
use Rattle.dscript_sdk.proofs.Unchanged.{answered_with, refused_with}
use Rattle.dscript_sdk.proofs.membership.method.Goals as goal

pub returns-clause-answer : goal.returns-clause-answer
unfolding method_of
returns-clause-answer c =
    let s = over_tree c.args.state.now in
    let answer = method_answer s (plain_of c.args.value.now) c.args.name.now (map plain_of c.args.args.now) in
    subst (λ (ask : Option TreeAsk). answer_with ask answer s ≡ Ok (plain_of c.in_ok-answer.answer, over_tree c.note_if.new.state))
    c.in_ok-ask.ensures
    (answered_with c.in_ok-ask.ask answer s (over_tree c.note_if.new.state) (plain_of c.in_ok-answer.answer) c.in_ok-answer.ensures
    c.in_ok-note_if.ensures.noted)

pub returns-in_err-answer-clause-fault : goal.returns-in_err-answer-clause-fault
unfolding method_of
returns-in_err-answer-clause-fault c =
    let p = err_from_is_err_and c.from_residual-in_err-answer.result c.from_residual-in_err-answer.ensures.1 in
    let s = over_tree c.args.state.now in
    let answer = method_answer s (plain_of c.args.value.now) c.args.name.now (map plain_of c.args.args.now) in
    rw (p.1, p.2)
    (subst (λ (ask : Option TreeAsk). Refuses c.in_err-answer.field-0.0 (answer_with ask answer s)) c.in_ok-ask.ensures
    (refused_with c.in_ok-ask.ask answer s c.in_err-answer.field-0.0 c.in_err-answer.ensures))
