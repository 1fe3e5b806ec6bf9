-- An input of each of some pips succeeded: each is there and misses one, and what is kept of it is brought up to that.
use Rattle.std.proofs.Common.{◌-◌, ◌<◌, length, get_or, ap, arith, ◌∙◌}
use Rattle.std.proofs.lemmas.List.{get_or_default}
use Rattle.sched_core.proofs.Flags.{but_missing, flagged_all, flagged_size, missing_left, missing_step, missing_there, with_missing_size}
use Rattle.sched_core.specs.Indexes.{missing_at, with_missing}
use Rattle.sched_core.specs.States.{is_waiting}
use Rattle.sched_core.specs.declared.state.PipState.TheVariants as state
use Rattle.sched_core.proofs.indexes.count_all_good.Goals as goal

pub bounds-states-pip : goal.bounds-states-pip
bounds-states-pip c =
    let deps = c.args.dependents.now in
    let k = c.dependents.dependent-index in
    let ready = c.dependents.ready in
    missing_there ready (length c.args.states.now) (get_or deps k 0) c.dependents.invariant.size
    (missing_left c.args.ready.now ready deps k c.dependents-test.true c.requires.counted c.dependents.invariant.missing)

pub count_good-requires : goal.count_good-requires
count_good-requires c =
    let deps = c.args.dependents.now in
    let k = c.dependents.dependent-index in
    let ready = c.dependents.ready in
    let size = c.dependents.invariant.size in
    let left : 0 < missing_at ready (get_or deps k 0) =
    missing_left c.args.ready.now ready deps k c.dependents-test.true c.requires.counted c.dependents.invariant.missing in
    let there : get_or deps k 0 < length c.args.states.now =
    missing_there ready (length c.args.states.now) (get_or deps k 0) size left in record {
      left = left;
      missing = omega (arith, there, size.missing);
      failed = omega (arith, there, size.failed);
      starts = omega (arith, there, size.starts);
      skips = omega (arith, there, size.skips);
    }

pub dependents-preserved : goal.dependents-preserved
dependents-preserved c =
    let deps = c.args.dependents.now in
    let k = c.dependents.dependent-index in
    let states = c.args.states.now in
    let ready = c.dependents.ready in
    let h = c.dependents.invariant in
    let q = get_or deps k 0 in
    let left : 0 < missing_at ready q = missing_left c.args.ready.now ready deps k c.dependents-test.true c.requires.counted h.missing in
    let there : q < length states = missing_there ready (length states) q h.size left in
    let count = missing_at ready q - 1 in
    let size = with_missing_size ready (length states) q count h.size in
    let waits = c.is_waiting.result in
    rw c.count_good.ensures (record {
      size = flagged_size (with_missing ready q count) (length states) q waits size;
      flagged = flagged_all states (with_missing ready q count) (length states) q waits size there
          (c.is_waiting.ensures ∙ ap is_waiting (get_or_default states q _ state.Skipped there))
          (but_missing states ready q count h.flagged);
      missing = missing_step c.args.ready.now ready deps (length states) k c.dependents-test.true h.size left h.missing;
      failed = h.failed;
    })
