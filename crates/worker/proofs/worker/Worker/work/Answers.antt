use Rattle.std.proofs.Common.{arith, refl}
use Rattle.worker.proofs.Going.{goes_further, goes_still}
use Rattle.worker.proofs.worker.Worker.work.Goals as goal

pub pips-init : goal.pips-init
pips-init g c = goes_still _ _ refl (omega arith) refl refl

pub pips-preserved : goal.pips-preserved
pips-preserved g c = goes_further _ _ _ c.pips.invariant c.turn-goes_on.ensures.goes

pub returns-then-not-goes_on-clause-goes : goal.returns-then-not-goes_on-clause-goes
returns-then-not-goes_on-clause-goes g c = goes_further _ _ _ c.pips.invariant c.turn-goes_on.ensures.goes
