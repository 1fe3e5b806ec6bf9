use Rattle.std.proofs.Common.{arith, refl}
use Rattle.worker.proofs.Going.{goes_further, goes_still}
use Rattle.worker.proofs.worker.Worker.next.Goals as goal

pub looks-init : goal.looks-init
looks-init g c = goes_still _ _ refl (omega arith) refl refl

pub looks-preserved : goal.looks-preserved
looks-preserved g c = goes_further _ _ _ c.looks.invariant c.look.ensures.goes

pub returns-in_default-clause-goes : goal.returns-in_default-clause-goes
returns-in_default-clause-goes g c = goes_further _ _ _ c.looks.invariant c.look.ensures.goes
