use Rattle.bx_engine.specs.Crews.{AreThrough}
use Rattle.bx_engine.proofs.Crews.{more_workers, value_has}
use Rattle.bx_engine.proofs.crew.work_ahead.Goals as goal

pub returns-clause-through : goal.returns-clause-through
returns-clause-through g c =
    let bound = g.K.Keeper.bound c.args.keeper.now in
    value_has c.work_as.result
    (λ left. AreThrough c.args.cached bound c.useful-crew.result left.worked.faults left.worked.starved)
    (λ left. AreThrough c.args.cached bound c.args.workers left.worked.faults left.worked.starved)
    (λ left through. more_workers c.args.cached bound c.useful-crew.result c.args.workers left.worked.faults left.worked.starved c.useful-crew.ensures.few through)
    c.work_as.ensures.through
