-- An event that is allowed has its pip and its worker, and leaves indexes of the state after it.
use Rattle.std.proofs.Common.{◌≡◌, true, [], set, ap, ◌∙◌, arith}
use Rattle.std.proofs.lemmas.List.{get_or_default}
use Rattle.sched_core.proofs.CoreSteps.{Advances, IsThere, advanced, can_settle, is_there_for, keeps_step, settles_by}
use Rattle.sched_core.specs.Indexes.{flagged, list_at}
use Rattle.sched_core.specs.States.{is_waiting}
use Rattle.sched_core.specs.Table.{CoreState, next_state, allows, state_after_event, state_at}
use Rattle.sched_core.specs.declared.state.PipState.TheVariants as state
use Rattle.sched_core.proofs.machine.Core.apply.Goals as goal

pub index-requires : goal.index-requires
index-requires c =
    let s : CoreState = record { nodes = c.self.inside.graph; states = c.self.inside.states.items; left = c.self.inside.left.items } in
    let e = c.args.event.now in
    let q = c.pip-pip.result in
    let w = c.worker-worker.result in
    let allowed : allows s e ≡ true = ap (λ v. allows v e) c.self.view_is ∙ c.requires in
    let there : IsThere s q w = is_there_for s e q w c.self.invariant.sound allowed c.pip-pip.ensures c.worker-worker.ensures in
    omega (arith, there.pip, c.self.inside.states.ok)

pub index_mut-requires : goal.index_mut-requires
index_mut-requires c =
    let s : CoreState = record { nodes = c.self.inside.graph; states = c.self.inside.states.items; left = c.self.inside.left.items } in
    let e = c.args.event.now in
    let q = c.pip-pip.result in
    let w = c.worker-worker.result in
    let allowed : allows s e ≡ true = ap (λ v. allows v e) c.self.view_is ∙ c.requires in
    let there : IsThere s q w = is_there_for s e q w c.self.invariant.sound allowed c.pip-pip.ensures c.worker-worker.ensures in
    omega (arith, there.pip, c.self.inside.states.ok)

pub leave-requires : goal.leave-requires
leave-requires c =
    let s : CoreState = record { nodes = c.self.inside.graph; states = c.self.inside.states.items; left = c.self.inside.left.items } in
    let e = c.args.event.now in
    let q = c.pip-pip.result in
    let w = c.worker-worker.result in
    let allowed : allows s e ≡ true = ap (λ v. allows v e) c.self.view_is ∙ c.requires in
    let there : IsThere s q w = is_there_for s e q w c.self.invariant.sound allowed c.pip-pip.ensures c.worker-worker.ensures in
    omega (arith, there.worker, c.worker-worker.ensures)

pub set_flags-requires : goal.set_flags-requires
set_flags-requires c =
    let s : CoreState = record { nodes = c.self.inside.graph; states = c.self.inside.states.items; left = c.self.inside.left.items } in
    let e = c.args.event.now in
    let q = c.pip-pip.result in
    let w = c.worker-worker.result in
    let allowed : allows s e ≡ true = ap (λ v. allows v e) c.self.view_is ∙ c.requires in
    let there : IsThere s q w = is_there_for s e q w c.self.invariant.sound allowed c.pip-pip.ensures c.worker-worker.ensures in
    let n = c.self.invariant.size in
    let same = c.self.invariant.sound.same_size in record {
      missing = omega (arith, there.pip, n.missing, same);
      failed = omega (arith, there.pip, n.failed, same);
      starts = omega (arith, there.pip, n.starts, same);
      skips = omega (arith, there.pip, n.skips, same);
    }

pub index-requires-2 : goal.index-requires-2
index-requires-2 c =
    let s : CoreState = record { nodes = c.self.inside.graph; states = c.self.inside.states.items; left = c.self.inside.left.items } in
    let e = c.args.event.now in
    let q = c.pip-pip.result in
    let w = c.worker-worker.result in
    let allowed : allows s e ≡ true = ap (λ v. allows v e) c.self.view_is ∙ c.requires in
    let there : IsThere s q w = is_there_for s e q w c.self.invariant.sound allowed c.pip-pip.ensures c.worker-worker.ensures in
    omega (arith, there.pip, c.self.invariant.sound.same_size, c.self.invariant.dependents_size, c.self.inside.dependents.ok)

pub settle-requires : goal.settle-requires
settle-requires c =
    let s : CoreState = record { nodes = c.self.inside.graph; states = c.self.inside.states.items; left = c.self.inside.left.items } in
    let e = c.args.event.now in
    let q = c.pip-pip.result in
    let w = c.worker-worker.result in
    let allowed : allows s e ≡ true = ap (λ v. allows v e) c.self.view_is ∙ c.requires in
    let there : IsThere s q w = is_there_for s e q w c.self.invariant.sound allowed c.pip-pip.ensures c.worker-worker.ensures in
    let list : c.as_slice.result.now ≡ list_at c.self.inside.dependents.items q =
    c.as_slice.ensures ∙ c.index-2.ensures ∙ get_or_default c.self.inside.dependents.items q c.index-2.result.now []
    (omega (arith, there.pip, c.self.invariant.sound.same_size, c.self.invariant.dependents_size)) in
    let set_now : c.set_flags.new.self ≡ flagged c.self.inside.ready q (is_waiting c.after-next.result) =
    c.set_flags.ensures ∙ ap (flagged c.self.inside.ready q) c.is_waiting.ensures in
    let can = can_settle s e q c.after-next.result c.self.inside.dependents.items c.self.inside.ready c.self.inside.seats.items c.self.invariant allowed c.pip-pip.ensures in
    let states : c.as_slice-2.result.now ≡ set s.states q c.after-next.result = c.as_slice-2.ensures.value in record {
      size = rw (set_now, states) can.size;
      flagged = rw (set_now, states) can.flags;
      counted = λ p. rw (set_now, list) (can.counted p);
    }

pub invariant_of-self : goal.invariant_of-self
invariant_of-self c =
    let s : CoreState = record { nodes = c.self.inside.graph; states = c.self.inside.states.items; left = c.self.inside.left.items } in
    let e = c.args.event.now in
    let q = c.pip-pip.result in
    let w = c.worker-worker.result in
    let allowed : allows s e ≡ true = ap (λ v. allows v e) c.self.view_is ∙ c.requires in
    let there : IsThere s q w = is_there_for s e q w c.self.invariant.sound allowed c.pip-pip.ensures c.worker-worker.ensures in
    let x = c.after-next.result in
    let was : c.index.result.now ≡ state_at s.states q =
    c.index.ensures ∙ get_or_default s.states q c.index.result.now state.Skipped there.pip in
    let advances : Advances s e q w x c.leave.new.left.items = record {
      pip = c.pip-pip.ensures;
      worker = c.worker-worker.ensures;
      state_is = c.after-next.ensures ∙ ap (λ old. state_after_event old e) (was ∙ ap (state_at s.states) c.pip-pip.ensures);
      left_is = c.leave.ensures;
    } in
    let list : c.as_slice.result.now ≡ list_at c.self.inside.dependents.items q =
    c.as_slice.ensures ∙ c.index-2.ensures ∙ get_or_default c.self.inside.dependents.items q c.index-2.result.now []
    (omega (arith, there.pip, c.self.invariant.sound.same_size, c.self.invariant.dependents_size)) in
    let set_now : c.set_flags.new.self ≡ flagged c.self.inside.ready q (is_waiting c.after-next.result) =
    c.set_flags.ensures ∙ ap (flagged c.self.inside.ready q) c.is_waiting.ensures in
    let states : c.as_slice-2.result.now ≡ set s.states q x = c.as_slice-2.ensures.value in
    rw c.seat.ensures (keeps_step s e q w x c.leave.new.left.items advances c.self.inside.dependents.items c.self.inside.ready
    c.settle.new.ready c.self.inside.seats.items c.self.invariant allowed
    (settles_by s q x states c.self.invariant.sound.same_size c.settle.ensures.size)
    (rw states at c.settle.ensures.flagged)
    (rw (set_now, list) at c.settle.ensures.settles))

pub returns : goal.returns
returns c =
    let s : CoreState = record { nodes = c.self.inside.graph; states = c.self.inside.states.items; left = c.self.inside.left.items } in
    let e = c.args.event.now in
    let q = c.pip-pip.result in
    let w = c.worker-worker.result in
    let allowed : allows s e ≡ true = ap (λ v. allows v e) c.self.view_is ∙ c.requires in
    let there : IsThere s q w = is_there_for s e q w c.self.invariant.sound allowed c.pip-pip.ensures c.worker-worker.ensures in
    let x = c.after-next.result in
    let was : c.index.result.now ≡ state_at s.states q =
    c.index.ensures ∙ get_or_default s.states q c.index.result.now state.Skipped there.pip in
    let advances : Advances s e q w x c.leave.new.left.items = record {
      pip = c.pip-pip.ensures;
      worker = c.worker-worker.ensures;
      state_is = c.after-next.ensures ∙ ap (λ old. state_after_event old e) (was ∙ ap (state_at s.states) c.pip-pip.ensures);
      left_is = c.leave.ensures;
    } in
    advanced s e q w x c.leave.new.left.items advances ∙ ap (λ v. next_state v e) c.self.view_is
