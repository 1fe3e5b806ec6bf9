use Rattle.std.proofs.Common.{ap, arith}
use Rattle.worker.specs.Workers.{WorkerData}
use Rattle.worker.proofs.Going.{goes_still}
use Rattle.worker.proofs.worker.Worker.conclude.Goals as goal

pub returns-in-Err-clause-goes : goal.returns-in-Err-clause-goes
returns-in-Err-clause-goes g c =
    let last = c.leave.ensures in
    goes_still c.args.self.now c.leave.new.self
    (ap (λ (w : WorkerData). w.share.worker) last)
    (let now = ap (λ (w : WorkerData). w.share.events) last in omega (arith, now))
    (ap (λ (w : WorkerData). w.tally.faults) last)
    (ap (λ (w : WorkerData). w.reader) last)
