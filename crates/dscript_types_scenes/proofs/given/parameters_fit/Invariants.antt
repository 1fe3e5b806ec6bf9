use Rattle.std.proofs.Common.{◌≡◌, length}
use Rattle.dscript_types_meaning.specs.Functions.{parameters_fit}
use Rattle.dscript_types_scenes.proofs.given.parameters_fit.Given as goal

abbrev pub invariant-parameters : goal.invariant-parameters
invariant-parameters l = parameters_fit l.left l.right ≡ parameters_fit l.fn.types l.fn.given

abbrev pub decreases-parameters : goal.decreases-parameters
decreases-parameters l = length l.left
