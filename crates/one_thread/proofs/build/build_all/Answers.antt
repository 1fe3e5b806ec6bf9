use Rattle.std.proofs.Common.{◌<◌, ◌≤◌, List, ap, length, map, subst, take, ◌∙◌}
use Rattle.std.specs.Prelude.{slice_get}
use Rattle.pip_model_types.specs.declared.made.Slot.{Slot}
use Rattle.pip_model_types.specs.declared.pip.Pip.{Pip}
use Rattle.violations.specs.Slots.{slot_files}
use Rattle.one_thread.specs.Shared.{all_shared}
use Rattle.one_thread.specs.Views.{ended_in}
use Rattle.one_thread.proofs.GoingThrough.{begun, files_built, next_built, verdicts_built}
use Rattle.one_thread.proofs.SharedSets.{next_shared, none_shared}
use Rattle.one_thread.proofs.build.build_all.Goals as goal

pub pips-init : goal.pips-init
pips-init g c = (
  begun c.args.plan.now.pips c.args.sources.now c.args.plan.now.tool_budget c.new-verdicts.result.items c.new-slots.result.items
      c.new-verdicts.ensures.items c.new-slots.ensures.items,
  none_shared c.new-shared.result.files c.new-shared.result.dirs c.args.plan.now.pips c.new-slots.result.items c.new-shared.ensures c.new-slots.ensures.items,
)

pub pips-preserved : goal.pips-preserved
pips-preserved g c =
    let pips = c.args.plan.now.pips in
    let within = subst (λ (ps : List Pip). c.pips.number < length ps) c.pips-pips.ensures.pips c.pips-test.true in (
      next_built pips c.args.sources.now c.args.plan.now.tool_budget c.pips.number c.pips.verdicts.items c.push.new.self.items
          c.pips.slots.items c.push-in-pips.new.self.items c.in_ok-next.next.verdict c.in_ok-next.next.slot c.pips.invariant.0 within
          (c.in_ok-next.ensures.result
          ∙ ap (λ (ts : List Slot). ended_in pips c.args.sources.now c.args.plan.now.tool_budget ts c.pips.number (slice_get pips c.pips.number))
          c.as_slice.ensures.value)
          c.in_ok-next.ensures.agrees c.in_ok-push.ensures.items c.in_ok-push-2.ensures.items,
      next_shared c.add_slot.new.self.files c.add_slot.new.self.dirs pips c.pips.slots.items c.push-in-pips.new.self.items c.pips.number c.in_ok-next.next.slot
          c.pips.invariant.0.slots within c.in_ok-push-2.ensures.items
          (c.in_ok-add_slot.ensures (all_shared (take c.pips.number pips) (map slot_files c.pips.slots.items)) c.pips.invariant.1),
    )

pub returns-clause-verdicts : goal.returns-clause-verdicts
returns-clause-verdicts g c =
    verdicts_built c.args.plan.now.pips c.args.sources.now c.args.plan.now.tool_budget c.pips.number c.pips.verdicts.items c.pips.slots.items
    c.pips.invariant.0 (subst (λ (ps : List Pip). length ps ≤ c.pips.number) c.pips-pips.ensures.pips c.pips-test.false)

pub returns-clause-files : goal.returns-clause-files
returns-clause-files g c =
    files_built c.args.plan.now.pips c.args.sources.now c.args.plan.now.tool_budget c.pips.number c.pips.verdicts.items c.pips.slots.items
    c.pips.invariant.0 (subst (λ (ps : List Pip). length ps ≤ c.pips.number) c.pips-pips.ensures.pips c.pips-test.false)

pub returns-clause-slots : goal.returns-clause-slots
returns-clause-slots g c = c.pips.invariant.0.agree
