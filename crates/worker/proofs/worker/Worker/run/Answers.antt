use Rattle.worker.proofs.Going.{goes_further}
use Rattle.worker.proofs.worker.Worker.run.Goals as goal

pub returns-in-Ok-clause-goes : goal.returns-in-Ok-clause-goes
returns-in-Ok-clause-goes g c = goes_further _ _ _ c.show.ensures.goes c.conclude.ensures.goes

pub returns-in-Err-clause-goes : goal.returns-in-Err-clause-goes
returns-in-Err-clause-goes g c = goes_further _ _ _ c.show.ensures.goes c.give_back-in-Err.ensures.goes
