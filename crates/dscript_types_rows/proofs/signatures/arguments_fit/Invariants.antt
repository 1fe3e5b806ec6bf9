use Rattle.std.proofs.Common.{◌≡◌, length}
use Rattle.dscript_types_meaning.specs.Access.{arguments_fit}
use Rattle.dscript_types_rows.proofs.signatures.arguments_fit.Given as goal

abbrev pub invariant-arguments : goal.invariant-arguments
invariant-arguments l = arguments_fit l.left l.right ≡ arguments_fit l.fn.takes l.fn.given

abbrev pub decreases-arguments : goal.decreases-arguments
decreases-arguments l = length l.left
