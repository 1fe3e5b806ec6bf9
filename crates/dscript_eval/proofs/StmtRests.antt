-- What is left of a statement, by its form.
use Rattle.std.proofs.Common.{◌≡◌, ℕ, List, Option, Result, map, option_map, ap, sym, ◌∙◌}
use Rattle.dscript_ast.specs.declared.expr.LoopKind.{LoopKind}
use Rattle.dscript_program.specs.BoundTree as tree
use Rattle.dscript_program.specs.BoundTree.{StmtData, to_stmt, to_stmts}
use Rattle.dscript_program.specs.Views.{expr_data, stmt_data}
use Rattle.dscript_program.specs.declared.bound.BoundExpr.{BoundExpr}
use Rattle.dscript_program.specs.declared.bound.BoundStmt.{BoundStmt}
use Rattle.dscript_eval_frames.specs.Forms.{acts_at, let_form, return_form, stmt_form}
use Rattle.dscript_eval_frames.specs.Keeps.{PreservesAnswer}
use Rattle.dscript_eval_frames.specs.Views.{View}
use Rattle.dscript_eval_frames.specs.Works.{goes_by}
use Rattle.dscript_eval_frames.specs.declared.stop.Stop.{Stop}
use Rattle.dscript_eval_frames.proofs.Kept.{keeps_at}

pub stmt_as
    : (result : Result (Unit {0}) Stop) (v w : View) (m d : StmtData) → m ≡ d
    → PreservesAnswer result (goes_by (stmt_form v.program (acts_at v) d) v) w
    → PreservesAnswer result (goes_by (stmt_form v.program (acts_at v) m) v) w
stmt_as result v w m d is kept =
    keeps_at result _ _ w (ap (λ x. goes_by (stmt_form v.program (acts_at v) x) v) is) kept

pub let_as
    : (result : Result (Unit {0}) Stop) (v w : View) (n : ℕ) (e d : Option BoundExpr) → e ≡ d
    → PreservesAnswer result (goes_by (let_form v.program (acts_at v) n (option_map expr_data d)) v) w
    → PreservesAnswer result (goes_by (let_form v.program (acts_at v) n (option_map expr_data e)) v) w
let_as result v w n e d is kept =
    keeps_at result _ _ w (ap (λ x. goes_by (let_form v.program (acts_at v) n (option_map expr_data x)) v) is) kept

pub return_as
    : (result : Result (Unit {0}) Stop) (v w : View) (e d : Option BoundExpr) → e ≡ d
    → PreservesAnswer result (goes_by (return_form v.program (acts_at v) (option_map expr_data d)) v) w
    → PreservesAnswer result (goes_by (return_form v.program (acts_at v) (option_map expr_data e)) v) w
return_as result v w e d is kept =
    keeps_at result _ _ w (ap (λ x. goes_by (return_form v.program (acts_at v) (option_map expr_data x)) v) is) kept

-- ## The parts of nodes, where they are read

pub if_from
    : (t : StmtData) (a : BoundExpr) (s s' : BoundStmt) (o o' : Option StmtData)
    → t ≡ tree.If (expr_data a) (stmt_data s) (to_stmt o) → s' ≡ s → o' ≡ o
    → t ≡ tree.If (expr_data a) (stmt_data s') (to_stmt o')
if_from t a s s' o o' e p q =
    e
    ∙ ap (λ y. tree.If (expr_data a) (stmt_data y) (to_stmt o)) (sym p)
    ∙ ap (λ y. tree.If (expr_data a) (stmt_data s') (to_stmt y)) (sym q)

pub for_from
    : (t : StmtData) (k : LoopKind) (n : ℕ) (a : BoundExpr) (s s' : BoundStmt) → t ≡ tree.For k n (expr_data a) (stmt_data s) → s' ≡ s
    → t ≡ tree.For k n (expr_data a) (stmt_data s')
for_from t k n a s s' e p = e ∙ ap (λ y. tree.For k n (expr_data a) (stmt_data y)) (sym p)

pub block_from
    : (t : StmtData) (v l : List BoundStmt) → t ≡ tree.Block (to_stmts (map stmt_data v)) → l ≡ v
    → t ≡ tree.Block (to_stmts (map stmt_data l))
block_from t v l e q = e ∙ ap (λ y. tree.Block (to_stmts (map stmt_data y))) (sym q)
