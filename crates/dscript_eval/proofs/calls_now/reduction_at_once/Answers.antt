use Rattle.dscript_eval.proofs.CallsNow.{reduction_given}
use Rattle.dscript_eval.proofs.calls_now.reduction_at_once.Goals as goal

pub returns-clause-given : goal.returns-clause-given
returns-clause-given c holds =
    reduction_given _ _ _ _ _ _ _ _ _ _ c.in-Ok.ensures c.in-Ok-share.ensures c.in-Ok-number_of.ensures
    (c.body_at_once.ensures.given holds)
