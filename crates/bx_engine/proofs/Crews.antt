-- What workers count together.
use Rattle.std.proofs.Common.{◌≡◌, ℕ, zero, suc, ◌+◌, ◌*◌, ◌-◌, ◌^◌, ◌<◌, ◌≤◌, min, Bool, true, false, cond, List, [], ◌∷◌, length, Option, Some, None, Result, Ok, Err, refl, ap, sym, ◌∙◌, subst, arith}
use Rattle.std.specs.Prelude.{IfOk, IfSome, IsSome, is_some, count_by, option_map}
use Rattle.std.specs.List.{All, sum_by}
use Rattle.std.proofs.lemmas.List.Sums.{sum_by-cons}
use Rattle.std.proofs.lemmas.Nat.{mul-le}
use Rattle.bx_io.specs.Causes.{IsWithin}
use Rattle.two_phase.specs.Reading.{ReaderData, ReadsIfAny, ReadsOn}
use Rattle.worker.specs.Ended.{has_ended}
use Rattle.sched_board.specs.Board.{ShareData}
use Rattle.worker.specs.Workers.{GoesOn, WorkerData, new_worker}
use Rattle.worker.specs.declared.tally.Tally.{Tally}
use Rattle.bx_engine.specs.Crews.{AreThrough, IsFresh, IsThrough}

-- what holds of a value, if there is one, by what holds of it
pub value_has : {X E : Type 0} (r : Result X E) (P Q : X → Type 0) → ((x : X) → P x → Q x) → IfOk r P → IfOk r Q
value_has (Ok x) P Q f h = f x h
value_has (Err e) P Q f h = tt

-- ## One worker

-- a reader that did not fail yet counts no more faults than its bound
reads_few : (x y : ReaderData) (k b : ℕ) → ReadsOn x y k → x.faults ≡ 0 → x.bound ≡ Some b → k ≤ b
reads_few x y k b r none is =
    let within : IsWithin x.bound x.faults = λ z e. omega (arith, none) in
    let most : y.faults ≤ b = r.within within b (r.bound_is ∙ is) in
    let some : IsSome x.bound = subst (λ (o : Option ℕ). IsSome o) (sym is) refl in
    let rose : x.faults + k ≤ y.faults = r.rose (λ there. omega (arith, none)) some in
    omega (arith, most, rose)

few_read : (x y : Option ReaderData) (bound : Option ℕ) (k b : ℕ) → ReadsIfAny x y k → IfSome x (λ r. (r.bound ≡ bound) × (r.faults ≡ 0)) → bound ≡ Some b → k ≤ b
few_read None None bound k b reads begun is = omega (arith, reads)
few_read None (Some y) bound k b reads begun is = absurd reads
few_read (Some x) None bound k b reads begun is = absurd reads
few_read (Some x) (Some y) bound k b reads begun is = reads_few x y k b reads begun.1 (begun.0 ∙ is)

none_read_there : (x y : Option ReaderData) (k : ℕ) → ReadsIfAny x y k → is_some x ≡ false → k ≡ 0
none_read_there None None k reads e = reads
none_read_there None (Some y) k reads e = absurd reads
none_read_there (Some x) y k reads e = let never : true ≡ false = e in absurd cc

-- a worker that began and is through
pub through : (cached : Bool) (bound : Option ℕ) (before now : WorkerData) → IsFresh cached bound before → GoesOn before now → has_ended now ≡ true → IsThrough cached bound now
through cached bound before now fresh goes ended =
    let zero : before.tally.faults ≡ 0 = ap (λ (t : Tally). t.faults) fresh.tally_is in
    record {
      ended = ended;
      few_faults = λ b is.
          let few = few_read before.reader now.reader bound goes.counted b goes.reads fresh.reader is in
          let most = goes.faults in
          omega (arith, few, most, zero);
      unread = λ off.
          let none = none_read_there before.reader now.reader goes.counted goes.reads (fresh.reads ∙ off) in
          let most = goes.faults in
          omega (arith, none, most, zero);
    }

-- a new worker
pub fresh : {R : Type 0} (f : R → ReaderData) (cached : Bool) (bound : Option ℕ) (w : WorkerData) (reader : Option R) (share : ShareData)
    → w ≡ new_worker (option_map f reader) share → is_some reader ≡ cached → IfSome reader (λ r. ((f r).bound ≡ bound) × ((f r).faults ≡ 0)) → IsFresh cached bound w
fresh f cached bound w None share is some h = record {
  tally_is = ap (λ (x : WorkerData). x.tally) is;
  reads = ap (λ (x : WorkerData). is_some x.reader) is ∙ some;
  reader = subst (λ (x : WorkerData). IfSome x.reader (λ r. (r.bound ≡ bound) × (r.faults ≡ 0))) (sym is) tt;
}
fresh f cached bound w (Some r) share is some h = record {
  tally_is = ap (λ (x : WorkerData). x.tally) is;
  reads = ap (λ (x : WorkerData). is_some x.reader) is ∙ some;
  reader = subst (λ (x : WorkerData). IfSome x.reader (λ q. (q.bound ≡ bound) × (q.faults ≡ 0))) (sym is) h;
}

-- ## All workers

rest_of : (P : WorkerData → Type 0) (w : WorkerData) (ws : List WorkerData) → All P (w ∷ ws) → All P ws
rest_of P w ws h = λ k d l. h (suc k) d (omega (arith, l))

abbrev faults_in : List WorkerData → ℕ
faults_in ws = sum_by (λ (w : WorkerData). w.tally.faults) ws

abbrev starved_in : List WorkerData → ℕ
starved_in ws = count_by (λ (w : WorkerData). w.tally.starved) ws

times_more : (b n : ℕ) → b * suc n ≡ b * n + b
times_more b n = grind arith

sum_few : (cached : Bool) (bound : Option ℕ) (b : ℕ) (ws : List WorkerData) → bound ≡ Some b → All (IsThrough cached bound) ws → faults_in ws ≤ b * length ws
sum_few cached bound b [] is h = let none : faults_in [] ≡ 0 = refl in omega (arith, none)
sum_few cached bound b (w ∷ ws) is h =
    let here : w.tally.faults ≤ b = (h 0 w (omega arith)).few_faults b is in
    let more = sum_few cached bound b ws is (rest_of (IsThrough cached bound) w ws h) in
    let all = sum_by-cons (λ (x : WorkerData). x.tally.faults) w ws in
    let many : b * length (w ∷ ws) ≡ b * length ws + b = times_more b (length ws) in
    omega (arith, here, more, all, many)

sum_none : (cached : Bool) (bound : Option ℕ) (ws : List WorkerData) → cached ≡ false → All (IsThrough cached bound) ws → faults_in ws ≡ 0
sum_none cached bound [] off h = refl
sum_none cached bound (w ∷ ws) off h =
    let here : w.tally.faults ≡ 0 = (h 0 w (omega arith)).unread off in
    let more = sum_none cached bound ws off (rest_of (IsThrough cached bound) w ws h) in
    let all = sum_by-cons (λ (x : WorkerData). x.tally.faults) w ws in
    omega (arith, here, more, all)

one_or_none : (b : Bool) → cond b 1 0 ≤ 1
one_or_none true = omega arith
one_or_none false = omega arith

starved_few : (ws : List WorkerData) → starved_in ws ≤ length ws
starved_few [] = let none : starved_in [] ≡ 0 = refl in omega (arith, none)
starved_few (w ∷ ws) =
    let here = one_or_none w.tally.starved in
    let more = starved_few ws in
    let all = sum_by-cons (λ (x : WorkerData). cond x.tally.starved 1 0) w ws in
    omega (arith, here, more, all)

pub all_through : (cached : Bool) (bound : Option ℕ) (ws : List WorkerData) (faults starved : ℕ) → faults ≡ min (faults_in ws) (2 ^ 64 - 1) → starved ≡ starved_in ws
    → All (IsThrough cached bound) ws → AreThrough cached bound (length ws) faults starved
all_through cached bound ws faults starved faults_are starved_are h = record {
  few_faults = λ b is. let few = sum_few cached bound b ws is h in omega (arith, few, faults_are);
  unread = λ off. let none = sum_none cached bound ws off h in omega (arith, none, faults_are);
  few_starved = let few = starved_few ws in omega (arith, few, starved_are);
}

-- what holds of some workers holds of more
pub more_workers : (cached : Bool) (bound : Option ℕ) (some many faults starved : ℕ) → some ≤ many
    → AreThrough cached bound some faults starved → AreThrough cached bound many faults starved
more_workers cached bound some many faults starved more through = record {
  few_faults = λ b is.
      let few = through.few_faults b is in
      let times : b * some ≤ b * many = mul-le b some b many (omega arith) more in
      omega (arith, few, times);
  unread = through.unread;
  few_starved = let few = through.few_starved in omega (arith, few, more);
}
