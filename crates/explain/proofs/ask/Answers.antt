use Rattle.std.proofs.Common.{ap}
use Rattle.bx_io.specs.Holdings.{StoreTold}
use Rattle.explain.proofs.Told.{kept_from}
use Rattle.explain.proofs.ask.Goals as goal

pub returns-clause-over : goal.returns-clause-over
returns-clause-over g c = λ tells. c.in_ok-misses.ensures.over g.first (ap (λ (k : StoreTold). k.held) c.in_ok-keeper.ensures) tells

pub returns-clause-reasons : goal.returns-clause-reasons
returns-clause-reasons g c = λ tells. c.in_ok-misses.ensures.reasons g.first (ap (λ (k : StoreTold). k.held) c.in_ok-keeper.ensures) tells

pub returns-clause-kept : goal.returns-clause-kept
returns-clause-kept g c = kept_from _ _ _ c.in_ok-keeper.ensures c.in_ok-misses.ensures.kept
