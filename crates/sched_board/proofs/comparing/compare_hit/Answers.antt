use Rattle.std.proofs.Common.{refl}
use Rattle.std.specs.Prelude.{slice_get}
use Rattle.pip_view_inputs.specs.Plain.{process_in}
use Rattle.sched_board.proofs.Comparisons.{hit_holds_now}
use Rattle.sched_board.proofs.comparing.compare_hit.Goals as goal

pub returns-then-holds : goal.returns-then-holds
returns-then-holds c = (
  refl,
  hit_holds_now c.args.plan.now c.args.sources.now c.args.inputs.now c.args.pip c.args.found.now (process_in (slice_get c.args.plan.now.pips c.args.pip)) c.requires.process
      (c.in_ok-holds.ensures c.if-holds.true),
)
