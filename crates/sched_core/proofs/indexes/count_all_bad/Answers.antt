-- An input of each of some pips failed: each is there, and what is kept of it is brought up to that.
use Rattle.std.proofs.Common.{◌<◌, length, get_or, ap, arith, ◌∙◌}
use Rattle.std.proofs.lemmas.List.{get_or_default}
use Rattle.sched_core.proofs.Flags.{but_failed, failed_step, flagged_all, flagged_size, stands_there, with_failed_size}
use Rattle.sched_core.specs.Indexes.{with_failed}
use Rattle.sched_core.specs.States.{is_waiting}
use Rattle.sched_core.specs.declared.state.PipState.TheVariants as state
use Rattle.sched_core.proofs.indexes.count_all_bad.Goals as goal

pub bounds-states-pip : goal.bounds-states-pip
bounds-states-pip c =
    stands_there c.args.dependents.now (length c.args.states.now) c.dependents.dependent-index c.dependents-test.true c.requires.there

pub count_bad-requires : goal.count_bad-requires
count_bad-requires c =
    let there : get_or c.args.dependents.now c.dependents.dependent-index 0 < length c.args.states.now =
    stands_there c.args.dependents.now (length c.args.states.now) c.dependents.dependent-index c.dependents-test.true c.requires.there in
    let size = c.dependents.invariant.size in record {
      missing = omega (arith, there, size.missing);
      failed = omega (arith, there, size.failed);
      starts = omega (arith, there, size.starts);
      skips = omega (arith, there, size.skips);
    }

pub dependents-preserved : goal.dependents-preserved
dependents-preserved c =
    let deps = c.args.dependents.now in
    let k = c.dependents.dependent-index in
    let states = c.args.states.now in
    let ready = c.dependents.ready in
    let h = c.dependents.invariant in
    let q = get_or deps k 0 in
    let there : q < length states = stands_there deps (length states) k c.dependents-test.true c.requires.there in
    let size = with_failed_size ready (length states) q h.size in
    let waits = c.is_waiting.result in
    rw c.count_bad.ensures (record {
      size = flagged_size (with_failed ready q) (length states) q waits size;
      flagged = flagged_all states (with_failed ready q) (length states) q waits size there
          (c.is_waiting.ensures ∙ ap is_waiting (get_or_default states q _ state.Skipped there))
          (but_failed states ready q h.flagged);
      missing = h.missing;
      failed = failed_step c.args.ready.now ready deps (length states) k c.dependents-test.true h.size there h.failed;
    })
