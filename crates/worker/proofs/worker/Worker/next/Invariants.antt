use Rattle.worker.specs.Workers.{GoesOn}
use Rattle.worker.proofs.worker.Worker.next.Given as goal

abbrev pub invariant-looks : goal.invariant-looks
invariant-looks g l = GoesOn l.fn.self l.self
