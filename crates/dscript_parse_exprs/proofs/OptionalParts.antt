-- What contracts see of statements with an optional part.
use Rattle.std.proofs.Common.{◌≡◌, List, ℕ, Option, Some, None}
use Rattle.std.specs.declared.alloc.Global.{Global}
use Rattle.std.specs.declared.boxed.Box.{Box}
use Rattle.dscript_ast.specs.ExprTree as tree
use Rattle.dscript_ast.specs.Views.{expr_tree, note_tree, stmt_tree}
use Rattle.dscript_ast.specs.declared.expr.Expr.{Expr}
use Rattle.dscript_ast.specs.declared.expr.Stmt.{Stmt}
use Rattle.dscript_ast.specs.declared.expr.Stmt.TheVariants as stmts
use Rattle.dscript_ast.specs.declared.type_node.TypeNode.{TypeNode}
use Rattle.dscript_ast.proofs.NodeViews.{stmt_tree-Let, stmt_tree-Return, stmt_tree-If}

pub let_none : (x : List ℕ) (t : Option (Box TypeNode Global)) → stmt_tree (stmts.Let x t None) ≡ tree.Let x (note_tree t) tree.no_expr
let_none x t = stmt_tree-Let x t None

pub let_some : (x : List ℕ) (t : Option (Box TypeNode Global)) (e : Expr) → stmt_tree (stmts.Let x t (Some e)) ≡ tree.Let x (note_tree t) (tree.an_expr (expr_tree e))
let_some x t e = stmt_tree-Let x t (Some e)

pub return_none : stmt_tree (stmts.Return None) ≡ tree.Return tree.no_expr
return_none = stmt_tree-Return None

pub return_some : (e : Expr) → stmt_tree (stmts.Return (Some e)) ≡ tree.Return (tree.an_expr (expr_tree e))
return_some e = stmt_tree-Return (Some e)

pub if_none : (c : Expr) (b : Box Stmt Global) → stmt_tree (stmts.If c b None) ≡ tree.If (expr_tree c) (stmt_tree b.value) tree.no_stmt
if_none c b = stmt_tree-If c b None

pub if_some : (c : Expr) (b o : Box Stmt Global) → stmt_tree (stmts.If c b (Some o)) ≡ tree.If (expr_tree c) (stmt_tree b.value) (tree.a_stmt (stmt_tree o.value))
if_some c b o = stmt_tree-If c b (Some o)

pub ruleset optional_views = (let_none, let_some, return_none, return_some, if_none, if_some)
