use Rattle.dscript_eval_frames.specs.declared.work.Callback.TheVariants as kinds
use Rattle.dscript_eval.proofs.CallsNow.{kind_given}
use Rattle.dscript_eval.proofs.calls_now.callback_at_once.Goals as goal

pub returns-in-Reduce-clause-given : goal.returns-in-Reduce-clause-given
returns-in-Reduce-clause-given c holds = kind_given _ _ _ _ _ kinds.Reduce _ _ _ c.in-Reduce.is (c.reduction_at_once.ensures.given holds)

pub returns-in-Map-clause-given : goal.returns-in-Map-clause-given
returns-in-Map-clause-given c holds = kind_given _ _ _ _ _ kinds.Map _ _ _ c.in-Map.is (c.item_at_once.ensures.given holds)

pub returns-in-Filter-clause-given : goal.returns-in-Filter-clause-given
returns-in-Filter-clause-given c holds = kind_given _ _ _ _ _ kinds.Filter _ _ _ c.in-Filter.is (c.item_at_once-in-Filter.ensures.given holds)

pub returns-in-MapMany-clause-given : goal.returns-in-MapMany-clause-given
returns-in-MapMany-clause-given c holds =
    kind_given _ _ _ _ _ kinds.MapMany _ _ _ c.in-MapMany.is (c.item_at_once-in-MapMany.ensures.given holds)
