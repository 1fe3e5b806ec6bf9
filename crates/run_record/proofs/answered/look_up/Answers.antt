use Rattle.std.proofs.Common.{◌≡◌, IfOk, subst}
use Rattle.observed.specs.declared.access.Answer.{Answer}
use Rattle.run_record.proofs.Found.{found_there, not_there}
use Rattle.run_record.proofs.answered.look_up.Goals as goal

pub returns-in-Ok : goal.returns-in-Ok
returns-in-Ok c =
    subst (λ (x : Answer). IfOk c.share.result (λ answer. answer ≡ x))
    (found_there c.args.paths.now c.asks.result.now c.args.answers.now c.args.ask.now c.in-Ok.place c.index-answers-place.result
    c.asks.ensures.asks c.asks.ensures.order c.requires c.in-Ok.ensures.bound c.in-Ok.ensures.ok c.index-answers-place.is)
    c.share.ensures

pub returns-in-Err : goal.returns-in-Err
returns-in-Err c =
    not_there c.args.paths.now c.asks.result.now c.args.answers.now c.args.ask.now c.in-Err.field-0
    c.asks.ensures.asks c.asks.ensures.order c.in-Err.ensures.bound c.in-Err.ensures.position
