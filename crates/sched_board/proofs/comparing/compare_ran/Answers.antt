use Rattle.std.proofs.Common.{◌≡◌, Bool, refl, subst, true}
use Rattle.std.specs.Prelude.{IfSome, ◌↔◌, slice_get}
use Rattle.pip_model_types.specs.declared.desc.Desc.{Desc}
use Rattle.pip_model_types.specs.declared.pip.ProcessDesc.{ProcessDesc}
use Rattle.pip_view_inputs.specs.Plain.{process_in}
use Rattle.run_record.specs.Digests.{IsReadBack}
use Rattle.run_record.specs.Holding.{HoldsNow}
use Rattle.sched_board_slots.specs.Slots.{own_desc, own_view}
use Rattle.sched_board.proofs.Comparisons.{ran_holds}
use Rattle.sched_board.proofs.comparing.compare_ran.Goals as goal

pub returns-then-holds : goal.returns-then-holds
returns-then-holds c =
    let plan = c.args.plan.now in
    let tree = c.args.sources.now in
    let inputs = c.args.inputs.now in
    let process = process_in (slice_get plan.pips c.args.pip) in (
      refl,
      ran_holds plan tree inputs c.args.pip c.args.ran.now process c.requires.process c.desc.ensures.sound
          (subst (λ (d : Desc). IsReadBack d) c.desc.ensures.value c.reads_back.ensures)
          (subst
          (λ (b : Bool). IfSome process (λ (p : ProcessDesc). b ≡ true ↔ HoldsNow (own_desc plan tree inputs p) (own_view plan tree inputs c.args.pip) c.args.ran.now))
          c.if-holds.true c.in_ok-holds.ensures),
    )
