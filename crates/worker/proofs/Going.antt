-- A worker goes on.
use Rattle.std.proofs.Common.{◌≡◌, ℕ, ◌+◌, ◌-◌, ◌^◌, ◌<◌, ◌≤◌, min, Bool, true, false, ◌||◌, Option, Some, refl, ap, sym, ◌∙◌, subst, arith}
use Rattle.std.specs.Prelude.{is_some}
use Rattle.two_phase.specs.Reading.{ReaderData, ReadsIfAny, ReadsOn}
use Rattle.two_phase.proofs.ReaderCalls.{more_read, none_read}
use Rattle.sched_board.specs.Board.{ShareData}
use Rattle.worker.specs.Ended.{has_ended}
use Rattle.worker.specs.Workers.{GoesOn, WorkerData}

-- it looked nothing up, and may have made events
pub goes_still : (w now : WorkerData) → now.share.worker ≡ w.share.worker → w.share.events ≤ now.share.events → now.tally.faults ≡ w.tally.faults
    → now.reader ≡ w.reader → GoesOn w now
goes_still w now worker events faults reader = record {
  worker = worker;
  events = events;
  counted = 0;
  faults = omega (arith, faults);
  all_counted = λ l. omega (arith, faults);
  reads = subst (λ (r : Option ReaderData). ReadsIfAny w.reader r 0) (sym reader) (none_read w.reader);
}

-- it looked up once
pub goes_read : (w now : WorkerData) (before after : ReaderData) (n : ℕ) → now.share ≡ w.share → w.reader ≡ Some before → now.reader ≡ Some after
    → ReadsOn before after n → now.tally.faults ≡ min (w.tally.faults + n) (2 ^ 64 - 1) → GoesOn w now
goes_read w now before after n share was is reads faults = record {
  worker = ap (λ (s : ShareData). s.worker) share;
  events = omega (arith, ap (λ (s : ShareData). s.events) share);
  counted = n;
  faults = omega (arith, faults);
  all_counted = λ l. omega (arith, faults, l);
  reads =
      subst (λ (r : Option ReaderData). ReadsIfAny w.reader r n) (sym is)
      (subst (λ (r : Option ReaderData). ReadsIfAny r (Some after) n) (sym was) reads);
}

-- it looked up once, and that did not fail
pub goes_well : (w now : WorkerData) (before after : ReaderData) → now.share ≡ w.share → now.tally.faults ≡ w.tally.faults → w.reader ≡ Some before → now.reader ≡ Some after
    → ReadsOn before after 0 → GoesOn w now
goes_well w now before after share faults was is reads = record {
  worker = ap (λ (s : ShareData). s.worker) share;
  events = omega (arith, ap (λ (s : ShareData). s.events) share);
  counted = 0;
  faults = omega (arith, faults);
  all_counted = λ l. omega (arith, faults);
  reads =
      subst (λ (r : Option ReaderData). ReadsIfAny w.reader r 0) (sym is)
      (subst (λ (r : Option ReaderData). ReadsIfAny r (Some after) 0) (sym was) reads);
}

-- ## When it is through

or_true : (b : Bool) → (b || true) ≡ true
or_true true = refl
or_true false = refl

pub ended_marked : (w : WorkerData) → w.share.marked ≡ true → has_ended w ≡ true
ended_marked w e = ap (λ b. b || (w.tally.starved || is_some w.tally.left)) e

pub ended_starved : (w : WorkerData) → w.tally.starved ≡ true → has_ended w ≡ true
ended_starved w e = ap (λ b. w.share.marked || (b || is_some w.tally.left)) e ∙ or_true w.share.marked

pub ended_left : (w : WorkerData) → is_some w.tally.left ≡ true → has_ended w ≡ true
ended_left w e =
    ap (λ b. w.share.marked || (w.tally.starved || b)) e ∙ ap (λ b. w.share.marked || b) (or_true w.tally.starved) ∙ or_true w.share.marked

-- ## One step after another

pub goes_further : (a b c : WorkerData) → GoesOn a b → GoesOn b c → GoesOn a c
goes_further a b c first second = record {
  worker = second.worker ∙ first.worker;
  events = omega (arith, first.events, second.events);
  counted = first.counted + second.counted;
  faults = omega (arith, first.faults, second.faults);
  all_counted = λ l.
      let last : c.tally.faults ≡ b.tally.faults + second.counted = second.all_counted l in
      omega (arith, last, first.all_counted (omega (arith, last, l)));
  reads = more_read a.reader b.reader c.reader first.counted second.counted first.reads second.reads;
}
