use Rattle.std.proofs.Common.{◌≡◌, Bool, subst, true}
use Rattle.std.specs.Prelude.{IfSome, ◌↔◌, slice_get}
use Rattle.pip_model_types.specs.declared.pip.ProcessDesc.{ProcessDesc}
use Rattle.pip_view_inputs.specs.Plain.{desc_of, process_in}
use Rattle.pip_view.specs.Sees.{sees}
use Rattle.run_record.specs.Holding.{HoldsNow}
use Rattle.retire.proofs.Decisions.{fails_in, holds_in, not_run_in}
use Rattle.retire.proofs.taking.accepted.Goals as goal

pub returns-in_default : goal.returns-in_default
returns-in_default g c =
    not_run_in (process_in (slice_get c.args.frame.now.plan.now.pips c.args.pip)) c.args.frame.now.sources.now c.args.inputs.now c.args.frame.now.plan.now.tool_budget
    (sees c.args.frame.now.plan.now.pips c.args.frame.now.sources.now c.args.inputs.now c.args.pip) c.args.slot c.in_default.not-Ran

pub returns-then-holds : goal.returns-then-holds
returns-then-holds g c =
    let o = process_in (slice_get c.args.frame.now.plan.now.pips c.args.pip) in
    let see = sees c.args.frame.now.plan.now.pips c.args.frame.now.sources.now c.args.inputs.now c.args.pip in
    holds_in o c.args.frame.now.sources.now c.args.inputs.now c.args.frame.now.plan.now.tool_budget see c.args.slot c.in-Ran.ran c.in-Ran.is c.desc-sound.ensures.sound
    (subst
    (λ (b : Bool). IfSome o (λ (p : ProcessDesc). b ≡ true ↔ HoldsNow (desc_of c.args.frame.now.sources.now c.args.inputs.now c.args.frame.now.plan.now.tool_budget p) see c.in-Ran.ran))
    c.if-holds.true c.in_ok-holds.ensures)

pub returns : goal.returns
returns g c =
    let o = process_in (slice_get c.args.frame.now.plan.now.pips c.args.pip) in
    let see = sees c.args.frame.now.plan.now.pips c.args.frame.now.sources.now c.args.inputs.now c.args.pip in
    fails_in o c.args.frame.now.sources.now c.args.inputs.now c.args.frame.now.plan.now.tool_budget see c.args.slot c.in-Ran.ran c.in-Ran.is
    (subst
    (λ (b : Bool). IfSome o (λ (p : ProcessDesc). b ≡ true ↔ HoldsNow (desc_of c.args.frame.now.sources.now c.args.inputs.now c.args.frame.now.plan.now.tool_budget p) see c.in-Ran.ran))
    c.if-holds.false c.in_ok-holds.ensures)
