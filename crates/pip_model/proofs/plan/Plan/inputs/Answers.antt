use Rattle.std.proofs.Common.{◌<◌, ℕ, List, ap, length, subst, sym, ◌∙◌}
use Rattle.std.specs.List.{All}
use Rattle.pip_model_types.specs.declared.pip.Pip.{Pip}
use Rattle.pip_model.specs.Plans.{AreInputs, PlanData}
use Rattle.pip_model.proofs.Planning.{inputs_back}
use Rattle.pip_model.proofs.plan.Plan.inputs.Goals as goal

pub returns-clause-inputs : goal.returns-clause-inputs
returns-clause-inputs c =
    let pips = ap (λ (p : PlanData). p.pips) c.self.view_is in
    let within = subst (λ (ps : List Pip). c.args.pip < length ps) (sym pips) c.requires in
    subst (λ (ps : List Pip). AreInputs ps c.args.pip c.numbers.result.now) pips
    (subst (AreInputs c.self.inside.pips c.args.pip) (sym (c.numbers.ensures ∙ c.index.ensures))
    (c.self.invariant.all_inputs.each c.args.pip within c.index.result.now))

pub returns-clause-smaller : goal.returns-clause-smaller
returns-clause-smaller c =
    let pips = ap (λ (p : PlanData). p.pips) c.self.view_is in
    let within = subst (λ (ps : List Pip). c.args.pip < length ps) (sym pips) c.requires in
    let back = inputs_back c.self.inside.pips c.self.inside.inputs.items c.pips.ensures.list c.self.invariant.all_inputs in
    subst (All (λ (input : ℕ). input < c.args.pip)) (sym (c.numbers.ensures ∙ c.index.ensures))
    (back c.args.pip (subst (λ n. c.args.pip < n) (sym c.self.invariant.all_inputs.size) within) c.index.result.now)
