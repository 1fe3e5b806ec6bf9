use Rattle.dscript_types_rows.proofs.Prefixes.{prefix_acts, prefix_stops}
use Rattle.dscript_types_rows.proofs.operators.prefixed.Goals as goal

pub returns-in-None : goal.returns-in-None
returns-in-None c =
    prefix_stops _ _ _ _ _ _ c.in-Some.ensures.cases.0 c.in_ok-t.ensures c.operators.invariant c.in-None.is

pub operators-preserved : goal.operators-preserved
operators-preserved c =
    prefix_acts _ _ _ _ _ _ c.in-Some.ensures.cases.0 c.in_ok-t.ensures c.operators.invariant _ c.in-Some-2.is
