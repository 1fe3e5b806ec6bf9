use Rattle.std.proofs.Common.{◌+◌, ◌*◌, ℕ, length, map}
use Rattle.dscript_program.specs.BoundTree.{to_operands}
use Rattle.dscript_program.specs.Views.{operand_data}
use Rattle.dscript_value.specs.Plain as plain
use Rattle.dscript_value.specs.Plain.{Plain}
use Rattle.dscript_eval_direct.specs.Now.{GoesAtOnce, knowledge}
use Rattle.dscript_eval_direct.proofs.numbers.+number.Given as goal

abbrev pub decreases-number_of : goal.decreases-number_of
decreases-number_of l = 4 * l.nesting + 3

abbrev pub decreases-flag_of : goal.decreases-flag_of
decreases-flag_of l = 4 * l.nesting + 3

abbrev pub decreases-chain_number : goal.decreases-chain_number
decreases-chain_number l = 4 * l.nesting + 2

abbrev pub decreases-cond_number : goal.decreases-cond_number
decreases-cond_number l = 4 * l.nesting + 2

abbrev pub decreases-chain_flag : goal.decreases-chain_flag
decreases-chain_flag l = 4 * l.nesting + 2

abbrev pub decreases-operand_number : goal.decreases-operand_number
decreases-operand_number l = 4 * l.nesting + 4

abbrev pub decreases-operand_flag : goal.decreases-operand_flag
decreases-operand_flag l = 4 * l.nesting + 4

abbrev pub decreases-operands_number : goal.decreases-operands_number
decreases-operands_number l = 4 * l.nesting + 5

abbrev pub invariant-operands_number-operands : goal.invariant-operands_number-operands
invariant-operands_number-operands l =
    (y : Plain) (later : ℕ)
    → GoesAtOnce (knowledge l.known) (to_operands (map operand_data l.rest)) (plain.Number l.answer) l.left y later
    → GoesAtOnce (knowledge l.known) (to_operands (map operand_data l.more)) (plain.Number l.number) l.fn.left y later

abbrev pub decreases-operands_number-operands : goal.decreases-operands_number-operands
decreases-operands_number-operands l = length l.rest
