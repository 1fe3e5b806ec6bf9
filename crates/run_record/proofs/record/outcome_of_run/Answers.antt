use Rattle.std.proofs.Common.{◌≡◌, IfOk, ap, subst}
use Rattle.tool_run.specs.Described.{described}
use Rattle.run_record.specs.Outcomes.{outcome_of}
use Rattle.run_record.specs.declared.outcome.Outcome.{Outcome}
use Rattle.run_record.proofs.record.outcome_of_run.Goals as goal

pub returns-clause-outcome : goal.returns-clause-outcome
returns-clause-outcome g c =
    subst (λ (o : Outcome). IfOk c.judge.result (λ outcome. outcome ≡ o)) (ap (outcome_of (described c.args.desc.now)) c.in_ok-ran.ensures.ran)
    c.judge.ensures
