use Rattle.std.proofs.Common.{arith}
use Rattle.dscript_value.proofs.Deep.{deep_of}
use Rattle.dscript_value.proofs.value.FlatValues.new.Goals as goal

pub invariant_of-result : goal.invariant_of-result
invariant_of-result c = let d = c.requires in deep_of _ _ (grind arith) (grind arith)
