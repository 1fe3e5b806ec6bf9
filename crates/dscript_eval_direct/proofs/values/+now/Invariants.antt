use Rattle.std.proofs.Common.{◌+◌, ◌*◌, ◌++◌, ℕ, List, [], length, map}
use Rattle.dscript_program.specs.BoundTree.{to_elements, to_exprs, to_operands, to_parts, to_props}
use Rattle.dscript_program.specs.Views.{element_data, expr_data, operand_data, part_data, prop_data}
use Rattle.dscript_value.specs.Plain.{Plain, PlainField, plain_field, plain_of}
use Rattle.dscript_eval_direct.specs.Now.{FollowsAtOnce, GoesAtOnce, GoesOnAtOnce, HasArgumentsAtOnce, HasFieldsAtOnce, knowledge}
use Rattle.dscript_eval_direct.proofs.values.+now.Given as goal

abbrev pub decreases-chain_now : goal.decreases-chain_now
decreases-chain_now l = 8 * l.nesting + 2

abbrev pub decreases-cond_now : goal.decreases-cond_now
decreases-cond_now l = 8 * l.nesting + 2

abbrev pub decreases-made_now : goal.decreases-made_now
decreases-made_now l = 8 * l.nesting + 3

abbrev pub decreases-operand_now : goal.decreases-operand_now
decreases-operand_now l = 8 * l.nesting + 5

abbrev pub decreases-operands_now : goal.decreases-operands_now
decreases-operands_now l = 8 * l.nesting + 6

abbrev pub decreases-value_now : goal.decreases-value_now
decreases-value_now l = 8 * l.nesting + 4

abbrev pub invariant-operands_now-operands : goal.invariant-operands_now-operands
invariant-operands_now-operands l =
    (y : Plain) (later : ℕ)
    → GoesAtOnce (knowledge l.known) (to_operands (map operand_data l.rest)) (plain_of l.answer) l.after y later
    → GoesAtOnce (knowledge l.known) (to_operands (map operand_data l.more)) (plain_of l.fn.value) l.left y later

abbrev pub decreases-operands_now-operands : goal.decreases-operands_now-operands
decreases-operands_now-operands l = length l.rest

abbrev pub decreases-elements_now : goal.decreases-elements_now
decreases-elements_now l = 8 * l.nesting + 2

abbrev pub decreases-properties_now : goal.decreases-properties_now
decreases-properties_now l = 8 * l.nesting + 2

abbrev pub decreases-postfix_now : goal.decreases-postfix_now
decreases-postfix_now l = 8 * l.nesting + 2

abbrev pub decreases-items_now : goal.decreases-items_now
decreases-items_now l = 8 * l.nesting + 5

abbrev pub decreases-fields_now : goal.decreases-fields_now
decreases-fields_now l = 8 * l.nesting + 5

abbrev pub decreases-part_now : goal.decreases-part_now
decreases-part_now l = 8 * l.nesting + 7

abbrev pub decreases-index_now : goal.decreases-index_now
decreases-index_now l = 8 * l.nesting + 5

abbrev pub decreases-parts_now : goal.decreases-parts_now
decreases-parts_now l = 8 * l.nesting + 8

abbrev pub decreases-apply_now : goal.decreases-apply_now
decreases-apply_now l = 8 * l.nesting + 6

abbrev pub decreases-arguments_now : goal.decreases-arguments_now
decreases-arguments_now l = 8 * l.nesting + 5

abbrev pub invariant-arguments_now-arguments : goal.invariant-arguments_now-arguments
invariant-arguments_now-arguments l =
    (xs : List Plain) (later : ℕ)
    → HasArgumentsAtOnce (knowledge l.known) (to_exprs (map expr_data l.rest)) l.after xs later
    → HasArgumentsAtOnce (knowledge l.known) (to_exprs (map expr_data l.args)) l.left (map plain_of l.made.items ++ xs) later

abbrev pub decreases-arguments_now-arguments : goal.decreases-arguments_now-arguments
decreases-arguments_now-arguments l = length l.rest

abbrev pub invariant-items_now-elements : goal.invariant-items_now-elements
invariant-items_now-elements l =
    (xs : List Plain) (later : ℕ)
    → GoesOnAtOnce (knowledge l.known) (to_elements (map element_data l.rest)) (map plain_of l.made.items) l.after xs later
    → GoesOnAtOnce (knowledge l.known) (to_elements (map element_data l.es)) [] l.left xs later

abbrev pub decreases-items_now-elements : goal.decreases-items_now-elements
decreases-items_now-elements l = length l.rest

abbrev pub invariant-fields_now-properties : goal.invariant-fields_now-properties
invariant-fields_now-properties l =
    (fs : List PlainField) (later : ℕ)
    → HasFieldsAtOnce (knowledge l.known) (to_props (map prop_data l.rest)) l.after fs later
    → HasFieldsAtOnce (knowledge l.known) (to_props (map prop_data l.ps)) l.left (map plain_field l.made.items ++ fs) later

abbrev pub decreases-fields_now-properties : goal.decreases-fields_now-properties
decreases-fields_now-properties l = length l.rest

abbrev pub invariant-parts_now-parts : goal.invariant-parts_now-parts
invariant-parts_now-parts l =
    (y : Plain) (later : ℕ)
    → FollowsAtOnce (knowledge l.known) (to_parts (map part_data l.rest)) (plain_of l.answer) l.after y later
    → FollowsAtOnce (knowledge l.known) (to_parts (map part_data l.parts)) (plain_of l.fn.value) l.left y later

abbrev pub decreases-parts_now-parts : goal.decreases-parts_now-parts
decreases-parts_now-parts l = length l.rest
