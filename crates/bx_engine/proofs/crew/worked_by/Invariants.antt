use Rattle.std.proofs.Common.{◌≡◌, ◌-◌, ◌^◌, ◌≤◌, min, take}
use Rattle.std.specs.Prelude.{count_by}
use Rattle.std.specs.List.{sum_by}
use Rattle.worker.specs.Workers.{WorkerData}
use Rattle.bx_engine.proofs.crew.worked_by.Given as goal

abbrev pub invariant-crew : goal.invariant-crew
invariant-crew g l = record {
  faults : l.faults ≡ min (sum_by (λ (w : WorkerData). w.tally.faults) (take l.worker-index l.crew)) (2 ^ 64 - 1);
  starved : l.starved ≡ count_by (λ (w : WorkerData). w.tally.starved) (take l.worker-index l.crew);
  few : l.starved ≤ l.worker-index;
}
