use Rattle.std.proofs.Common.{ap, ◌∙◌}
use Rattle.pip_model.specs.Outputs.{numbers_from}
use Rattle.pip_model.specs.Plans.{PlanData}
use Rattle.pip_model.proofs.plan.Plan.pips_with_output.Goals as goal

pub returns : goal.returns
returns c =
    c.at.ensures ∙ c.self.invariant.outputs_of c.args.text.now
    ∙ ap (λ (p : PlanData). numbers_from 0 c.args.text.now p.pips) c.self.view_is
