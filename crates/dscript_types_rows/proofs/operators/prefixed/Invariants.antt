use Rattle.std.proofs.Common.{◌≡◌, length}
use Rattle.dscript_types_meaning.specs.Operators.{prefixed}
use Rattle.dscript_types_rows.proofs.operators.prefixed.Given as goal

abbrev pub invariant-operators : goal.invariant-operators
invariant-operators l = prefixed l.left l.answer ≡ prefixed l.fn.operators l.fn.t

abbrev pub decreases-operators : goal.decreases-operators
decreases-operators l = length l.left
