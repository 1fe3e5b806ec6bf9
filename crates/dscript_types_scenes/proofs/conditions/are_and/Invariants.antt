use Rattle.dscript_types_meaning.specs.Narrowing.{is_and}
use Rattle.dscript_types_scenes.proofs.Ending.{EachGoes}
use Rattle.dscript_types_scenes.proofs.conditions.are_and.Given as goal

abbrev pub invariant-operands : goal.invariant-operands
invariant-operands l = EachGoes is_and l.more l.operand-index
