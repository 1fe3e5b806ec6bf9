use Rattle.dscript_types_data.proofs.Counting.{one_counted}
use Rattle.dscript_types_data.proofs.types.Type.of_one.Goals as goal

pub invariant_of-result : goal.invariant_of-result
invariant_of-result c = one_counted _ _ _ c.nodes-nodes.ensures c.in_ok-new.ensures.ok
