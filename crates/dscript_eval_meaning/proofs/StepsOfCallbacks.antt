-- How many steps callbacks take: those of their bodies.
use Rattle.std.proofs.Common.{[], ◌∷◌, codes, Some, refl}
use Rattle.dscript_program.specs.declared.ambient.Ambient.TheVariants.{CmdArgument}
use Rattle.dscript_ast.specs.declared.operator.BinaryOp.TheVariants.{Add}
use Rattle.dscript_program.specs.BoundTree as tree
use Rattle.dscript_eval_operators.specs.CallbackArguments.{callback_in, reduction_in}
use Rattle.dscript_eval_operators.specs.Operators.{is_settled, operated}
use Rattle.dscript_eval_operators.specs.Spreads.{with_items_of}
use Rattle.dscript_eval_operators.specs.Sums.{sum_of}
use Rattle.dscript_eval_operators.specs.Truth.{is_true}
use Rattle.dscript_sdk_members.specs.ListMembers.{is_callback}
use Rattle.dscript_sdk_members.specs.Names.{member_named, written_name}
use Rattle.dscript_sdk.specs.Calls.{call_of}
use Rattle.dscript_sdk_calls.specs.CmdArgument.{cmd_argument}
use Rattle.dscript_sdk.specs.Members.{is_callback_named, is_function_named}
use Rattle.dscript_eval_meaning.specs.Callbacks.{callbacks}
use Rattle.dscript_eval_meaning.specs.Calls.{ambient as ambient_call, subject_call, method}
use Rattle.dscript_eval_meaning.specs.Constants.{constant}
use Rattle.dscript_eval_meaning.specs.Expressions.{arrow, named, value}
use Rattle.dscript_eval_meaning.specs.Meaning.{acts, evaluated, meaning}
use Rattle.dscript_eval_meaning.specs.Statements.{body_value, does}
use Rattle.dscript_eval_meaning.proofs.Samples.{Takes, ambient, binary, body, call_member, list, local, number}
use Rattle.dscript_eval_meaning.proofs.Samples.{only}
use Rattle.dscript_eval_meaning.proofs.Samples.{text, with_function}

-- `[1, 2].map(y => y)`
map_expression
    : Takes
    (with_function (body 1 1 (tree.Expr (local 0)))
    (call_member (list (number 1 ∷ number 2 ∷ [])) (codes "map") (tree.Arrow 0 ∷ [])))
    8
unfolding meaning evaluated acts constant value named arrow subject_call method is_function_named
    is_callback_named member_named written_name is_callback callbacks callback_in body_value
map_expression = (refl, refl)

-- `[1, 2].map(y => { return y; })`
map_statements
    : Takes
    (with_function (body 1 1 (tree.Stmts (tree.Return (Some (local 0)) ∷ [])))
    (call_member (list (number 1 ∷ number 2 ∷ [])) (codes "map") (tree.Arrow 0 ∷ [])))
    10
unfolding meaning evaluated acts constant value named arrow subject_call method is_function_named
    is_callback_named member_named written_name is_callback callbacks callback_in body_value does
map_statements = (refl, refl)

-- `["a", "b"].map(Cmd.argument)`: an ambient call takes no steps, and the number of the item is dropped
map_ambient
    : Takes
    (only (call_member (list (text (codes "a") ∷ text (codes "b") ∷ []))
    (codes "map") (ambient CmdArgument ∷ []))) 6
unfolding meaning evaluated acts constant value named subject_call method is_function_named
    is_callback_named member_named written_name is_callback callbacks callback_in ambient_call call_of
    cmd_argument
map_ambient = (refl, refl)

-- `[0, 1].filter(y => y)`
filter
    : Takes
    (with_function (body 1 1 (tree.Expr (local 0)))
    (call_member (list (number 0 ∷ number 1 ∷ [])) (codes "filter") (tree.Arrow 0 ∷ [])))
    8
unfolding meaning evaluated acts constant value named arrow subject_call method is_function_named
    is_callback_named member_named written_name is_callback callbacks callback_in body_value is_true
filter = (refl, refl)

-- `[1, 2].mapMany(y => [y])`
map_many
    : Takes
    (with_function (body 1 1 (tree.Expr (list (local 0 ∷ []))))
    (call_member (list (number 1 ∷ number 2 ∷ [])) (codes "mapMany") (tree.Arrow 0 ∷ [])))
    10
unfolding meaning evaluated acts constant value named arrow subject_call method is_function_named
    is_callback_named member_named written_name is_callback callbacks callback_in body_value with_items_of
map_many = (refl, refl)

-- `[1, 2].reduce((a, y) => a + y, 0)`
reduce
    : Takes
    (with_function (body 2 2 (tree.Expr (binary (local 0) Add (local 1))))
    (call_member (list (number 1 ∷ number 2 ∷ [])) (codes "reduce") (tree.Arrow 0 ∷ number 0 ∷ [])))
    13
unfolding meaning evaluated acts constant value named arrow subject_call method is_function_named
    is_callback_named member_named written_name is_callback callbacks reduction_in body_value operated
    is_settled sum_of
reduce = (refl, refl)
