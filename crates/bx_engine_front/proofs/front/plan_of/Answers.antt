use Rattle.std.proofs.lemmas.Result.{err_from_is_err_and}
use Rattle.bx_engine_front.proofs.front.plan_of.Goals as goal

pub returns-in_err-pips-clause-plan : goal.returns-in_err-pips-clause-plan
returns-in_err-pips-clause-plan c =
    let p = err_from_is_err_and c.from_residual.result c.from_residual.ensures.1 in rw (p.1, p.2) c.in_err-pips.ensures

pub returns-clause-plan : goal.returns-clause-plan
returns-clause-plan c = c.planned.ensures.plan c.in_ok-pips.ensures
