use Rattle.std.proofs.Common.{◌≡◌, ◌++◌, length}
use Rattle.tool_text.specs.Reading.{operand_texts}
use Rattle.tool_text.proofs.separating.texts_of.Given as goal
use Rattle.bx_tree.specs.Lent.{texts_now}

abbrev pub invariant-texts : goal.invariant-texts
invariant-texts l = texts_now l.texts.items ++ operand_texts l.rest ≡ operand_texts l.fn.text

abbrev pub decreases-texts : goal.decreases-texts
decreases-texts l = length l.rest
