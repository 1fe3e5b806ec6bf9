-- How many steps statements take. Each program calls a function without arguments, which takes two.
use Rattle.std.proofs.Common.{List, [], ◌∷◌, None, Some, refl}
use Rattle.dscript_ast.specs.declared.operator.BinaryOp.TheVariants.{Add}
use Rattle.dscript_ast.specs.declared.expr.LoopKind.TheVariants as loops
use Rattle.dscript_program.specs.BoundTree as tree
use Rattle.dscript_program.specs.BoundTree.{StmtData, a_stmt, no_stmt, to_stmts}
use Rattle.dscript_program.specs.ProgramData.{ProgramData}
use Rattle.dscript_eval_operators.specs.Operators.{is_settled, operated}
use Rattle.dscript_eval_operators.specs.Sums.{sum_of}
use Rattle.dscript_eval_operators.specs.Truth.{is_true}
use Rattle.dscript_eval_meaning.specs.Calls.{applied, subject_call}
use Rattle.dscript_eval_meaning.specs.Constants.{constant as a_constant}
use Rattle.dscript_eval_meaning.specs.Expressions.{named, value}
use Rattle.dscript_eval_meaning.specs.Meaning.{acts, evaluated, meaning}
use Rattle.dscript_eval_meaning.specs.Statements.{body_value, does}
use Rattle.dscript_eval_meaning.proofs.Samples.{Takes, binary, body, call, constant, function, global, list, local}
use Rattle.dscript_eval_meaning.proofs.Samples.{number}
use Rattle.dscript_eval_meaning.proofs.Samples.{program}

-- a function with two locals and these statements is called
abbrev run : List StmtData → ProgramData
run ss = program (function 0 ∷ constant (call (global 0) []) ∷ []) (body 0 2 (tree.Stmts ss) ∷ [])

no_statement : Takes (run []) 2
unfolding meaning evaluated acts a_constant value named applied body_value does subject_call
no_statement = (refl, refl)

-- blocks and lone semicolons take none
empty_statements : Takes (run (tree.Empty ∷ tree.Block (to_stmts (tree.Empty ∷ [])) ∷ [])) 2
unfolding meaning evaluated acts a_constant value named applied body_value does subject_call
empty_statements = (refl, refl)

-- `let s; s = 1; s;`
assignment : Takes (run (tree.Let 0 None None ∷ tree.Assign 0 (number 1) ∷ tree.Value (local 0) ∷ [])) 7
unfolding meaning evaluated acts a_constant value named applied body_value does subject_call
assignment = (refl, refl)

-- `if (true) { } else ; ; return;`
condition
    : Takes
    (run (tree.If tree.True (tree.Block (to_stmts [])) (a_stmt tree.Empty)
    ∷ tree.Empty ∷ tree.Return None ∷ [])) 5
unfolding meaning evaluated acts a_constant value named applied body_value does is_true subject_call
condition = (refl, refl)

-- `if (false) return 1; return 2;`
other_way
    : Takes
    (run (tree.If tree.False (tree.Return (Some (number 1))) no_stmt ∷ tree.Return (Some (number 2)) ∷ [])) 6
unfolding meaning evaluated acts a_constant value named applied body_value does is_true subject_call
other_way = (refl, refl)

-- `let s = 0; for (const y of [1, 2]) { s = s + y; } return s;`
loop
    : Takes
    (run
    (tree.Let 0 None (Some (number 0))
    ∷ tree.For loops.Const 1 (list (number 1 ∷ number 2 ∷ []))
    (tree.Block (to_stmts (tree.Assign 0 (binary (local 0) Add (local 1)) ∷ [])))
    ∷ tree.Return (Some (local 0)) ∷ []))
    20
unfolding meaning evaluated acts a_constant value named applied body_value does operated is_settled sum_of
    subject_call
loop = (refl, refl)

-- `for (const y of [1, 2]) return y;`: the second turn does not begin
returning_loop : Takes (run (tree.For loops.Const 1 (list (number 1 ∷ number 2 ∷ []))
    (tree.Return (Some (local 1))) ∷ [])) 9
unfolding meaning evaluated acts a_constant value named applied body_value does subject_call
returning_loop = (refl, refl)
