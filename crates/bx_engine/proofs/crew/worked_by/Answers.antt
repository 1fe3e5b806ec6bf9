use Rattle.std.proofs.Common.{◌≡◌, ℕ, List, ap, arith, cond, ◌∙◌}
use Rattle.std.specs.Prelude.{count_by}
use Rattle.std.specs.List.{sum_by}
use Rattle.std.proofs.lemmas.List.{take_all}
use Rattle.std.proofs.lemmas.List.Sums.{sum_by_more}
use Rattle.worker.specs.Workers.{WorkerData}
use Rattle.worker.specs.declared.tally.Tally.{Tally}
use Rattle.bx_engine.proofs.Crews.{all_through}
use Rattle.bx_engine.proofs.crew.worked_by.Goals as goal

pub crew-preserved : goal.crew-preserved
crew-preserved g c =
    let w : WorkerData = c.worker-item.result in
    let i = c.crew.worker-index in
    let crew = c.args.crew.now in
    let all = sum_by_more (λ (x : WorkerData). x.tally.faults) crew i w c.crew-test.true in
    let same = ap (λ (x : WorkerData). x.tally.faults) c.worker-item.is in
    let own = ap (λ (t : Tally). t.faults) c.tally-tally.ensures in
    let sum = c.saturating_add-faults.ensures in
    let inv = c.crew.invariant.faults in
    let counted = sum_by_more (λ (x : WorkerData). cond x.tally.starved 1 0) crew i w c.crew-test.true in
    let one : c.one_if-starved.result ≡ cond w.tally.starved 1 0 = c.one_if-starved.ensures.value ∙ ap {B = ℕ} (λ (t : Tally). cond t.starved 1 0) c.tally-tally.ensures in
    let one_same = ap {B = ℕ} (λ (x : WorkerData). cond x.tally.starved 1 0) c.worker-item.is in
    record {
      faults = omega (arith, all, same, own, sum, inv);
      starved = omega (arith, counted, one, one_same, c.crew.invariant.starved);
      few = omega (arith, c.one_if-starved.ensures.few, c.crew.invariant.few);
    }

pub returns-clause-faults : goal.returns-clause-faults
returns-clause-faults g c =
    let whole = ap (λ (ws : List WorkerData). sum_by (λ (w : WorkerData). w.tally.faults) ws) (take_all c.crew.worker-index c.args.crew.now (omega (arith, c.crew-test.false))) in
    omega (arith, whole, c.crew.invariant.faults)

pub returns-clause-starved : goal.returns-clause-starved
returns-clause-starved g c =
    c.crew.invariant.starved ∙ ap (λ (ws : List WorkerData). count_by (λ (w : WorkerData). w.tally.starved) ws) (take_all c.crew.worker-index c.args.crew.now (omega (arith, c.crew-test.false)))

pub returns-clause-through : goal.returns-clause-through
returns-clause-through g c =
    λ cached bound through.
    let whole = take_all c.crew.worker-index c.args.crew.now (omega (arith, c.crew-test.false)) in
    let faults = ap (λ (ws : List WorkerData). sum_by (λ (w : WorkerData). w.tally.faults) ws) whole in
    all_through cached bound c.args.crew.now c.crew.faults c.crew.starved (omega (arith, faults, c.crew.invariant.faults))
    (c.crew.invariant.starved ∙ ap (λ (ws : List WorkerData). count_by (λ (w : WorkerData). w.tally.starved) ws) whole) through
