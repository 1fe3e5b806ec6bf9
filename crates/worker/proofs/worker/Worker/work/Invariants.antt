use Rattle.worker.specs.Workers.{GoesOn}
use Rattle.worker.proofs.worker.Worker.work.Given as goal

abbrev pub invariant-pips : goal.invariant-pips
invariant-pips g l = GoesOn l.fn.self l.self
