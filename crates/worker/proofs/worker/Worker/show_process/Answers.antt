use Rattle.std.proofs.Common.{arith, refl}
use Rattle.worker.proofs.Going.{goes_further, goes_still}
use Rattle.worker.proofs.worker.Worker.show_process.Goals as goal

pub returns-in_err-described-clause-goes : goal.returns-in_err-described-clause-goes
returns-in_err-described-clause-goes g c = goes_still _ _ refl (omega arith) refl refl

pub returns-in_err-view-clause-goes : goal.returns-in_err-view-clause-goes
returns-in_err-view-clause-goes g c = goes_still _ _ refl (omega arith) refl refl

pub returns-in_err-ran-in-Nothing-clause-goes : goal.returns-in_err-ran-in-Nothing-clause-goes
returns-in_err-ran-in-Nothing-clause-goes g c = goes_further _ _ _ c.look_up.ensures.goes c.ran.ensures.goes

pub returns-clause-goes : goal.returns-clause-goes
returns-clause-goes g c = goes_further _ _ _ c.look_up.ensures.goes c.ran.ensures.goes
