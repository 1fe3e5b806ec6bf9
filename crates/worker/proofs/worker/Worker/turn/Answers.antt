use Rattle.worker.proofs.Going.{goes_further}
use Rattle.worker.proofs.worker.Worker.turn.Goals as goal

pub returns-in-Job-clause-goes : goal.returns-in-Job-clause-goes
returns-in-Job-clause-goes g c = goes_further _ _ _ c.next.ensures.goes c.run.ensures.goes
