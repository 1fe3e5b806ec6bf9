use Rattle.std.proofs.Common.{◌≡◌, length}
use Rattle.dscript_value.specs.Plain.{plain_of}
use Rattle.dscript_eval_operators.specs.Operators.{prefixed}
use Rattle.dscript_eval_operators.proofs.operators.with_prefixes.Given as goal

abbrev pub invariant-operators : goal.invariant-operators
invariant-operators l = prefixed l.fn.operators (plain_of l.fn.value) ≡ prefixed l.left (plain_of l.answer)

abbrev pub decreases-operators : goal.decreases-operators
decreases-operators l = length l.left
