-- The data that contracts see of each bound node that the program makes.
use Rattle.std.proofs.Common.{◌≡◌, ℕ, ℤ, Bool, List, Option, Some, None, map, option_map, ap, sym, ◌∙◌}
use Rattle.std.specs.declared.alloc.Global.{Global}
use Rattle.std.specs.declared.boxed.Box.{Box}
use Rattle.std.specs.declared.vec.Vec.{Vec}
use Rattle.dscript_ast.specs.declared.expr.LoopKind.{LoopKind}
use Rattle.dscript_ast.specs.declared.expr.PathKind.{PathKind}
use Rattle.dscript_ast.specs.declared.operator.BinaryOp.{BinaryOp}
use Rattle.dscript_ast.specs.declared.operator.UnaryOp.{UnaryOp}
use Rattle.dscript_ast.specs.declared.type_node.TypeNode.{TypeNode}
use Rattle.dscript_ast.specs.Views.{note_tree}
use Rattle.dscript_program.specs.BoundTree as tree
use Rattle.dscript_program.specs.BoundTree.{to_exprs, to_operands, to_parts, to_elements, to_props, to_holes, to_stmts, to_stmt}
use Rattle.dscript_program.specs.Views.{expr_data, operand_data, part_data, element_data, prop_data, hole_data, stmt_data}
use Rattle.dscript_program.specs.declared.target.Target.{Target}
use Rattle.dscript_program.specs.declared.bound.BoundExpr.{BoundExpr}
use Rattle.dscript_program.specs.declared.bound.BoundExpr.TheVariants as exprs
use Rattle.dscript_program.specs.declared.bound.BoundExpr.TheFolds.{fold-roll-BoundExpr, fold-roll-BoundPart, fold-roll-BoundProp, fold-roll-BoundOperand, fold-roll-BoundElement, fold-roll-BoundHole}
use Rattle.dscript_program.specs.declared.bound.BoundPart.{BoundPart}
use Rattle.dscript_program.specs.declared.bound.BoundPart.TheVariants as parts
use Rattle.dscript_program.specs.declared.bound.BoundProp.{BoundProp}
use Rattle.dscript_program.specs.declared.bound.BoundProp.TheVariants as props
use Rattle.dscript_program.specs.declared.bound.BoundOperand as operands
use Rattle.dscript_program.specs.declared.bound.BoundElement as elements
use Rattle.dscript_program.specs.declared.bound.BoundHole as holes
use Rattle.dscript_program.specs.declared.bound.BoundStmt.{BoundStmt}
use Rattle.dscript_program.specs.declared.bound.BoundStmt.TheVariants as stmts
use Rattle.dscript_program.specs.declared.bound.BoundStmt.TheFolds.{fold-roll-BoundStmt}

pub expr_data-Arrow : (f : ℕ)
    → expr_data (exprs.Arrow f) ≡ tree.Arrow f
expr_data-Arrow f = ap expr_data (sym (exprs.rolls-Arrow f)) ∙ search (fold-roll-BoundExpr)

pub expr_data-Cond : (a : Box BoundExpr Global) (b : Box BoundExpr Global) (d : Box BoundExpr Global)
    → expr_data (exprs.Cond a b d) ≡ tree.Cond (expr_data a.value) (expr_data b.value) (expr_data d.value)
expr_data-Cond a b d = ap expr_data (sym (exprs.rolls-Cond a b d)) ∙ search (fold-roll-BoundExpr)

pub expr_data-Chain : (e : Box BoundExpr Global) (v : Vec operands.BoundOperand Global)
    → expr_data (exprs.Chain e v) ≡ tree.Chain (expr_data e.value) (to_operands (map operand_data v.items))
expr_data-Chain e v = ap expr_data (sym (exprs.rolls-Chain e v)) ∙ search (fold-roll-BoundExpr)

pub expr_data-Unary : (ops : Vec UnaryOp Global) (e : Box BoundExpr Global)
    → expr_data (exprs.Unary ops e) ≡ tree.Unary ops.items (expr_data e.value)
expr_data-Unary ops e = ap expr_data (sym (exprs.rolls-Unary ops e)) ∙ search (fold-roll-BoundExpr)

pub expr_data-Postfix : (e : Box BoundExpr Global) (v : Vec BoundPart Global)
    → expr_data (exprs.Postfix e v) ≡ tree.Postfix (expr_data e.value) (to_parts (map part_data v.items))
expr_data-Postfix e v = ap expr_data (sym (exprs.rolls-Postfix e v)) ∙ search (fold-roll-BoundExpr)

pub expr_data-Number : (n : ℤ)
    → expr_data (exprs.Number n) ≡ tree.Number n
expr_data-Number n = ap expr_data (sym (exprs.rolls-Number n)) ∙ search (fold-roll-BoundExpr)

pub expr_data-Str : (s : List ℕ)
    → expr_data (exprs.Str s) ≡ tree.Str s
expr_data-Str s = ap expr_data (sym (exprs.rolls-Str s)) ∙ search (fold-roll-BoundExpr)

pub expr_data-True : expr_data exprs.True ≡ tree.True
expr_data-True = ap expr_data (sym exprs.rolls-True) ∙ search (fold-roll-BoundExpr)

pub expr_data-False : expr_data exprs.False ≡ tree.False
expr_data-False = ap expr_data (sym exprs.rolls-False) ∙ search (fold-roll-BoundExpr)

pub expr_data-Undefined : expr_data exprs.Undefined ≡ tree.Undefined
expr_data-Undefined = ap expr_data (sym exprs.rolls-Undefined) ∙ search (fold-roll-BoundExpr)

pub expr_data-Template : (s : List ℕ) (v : Vec holes.BoundHole Global)
    → expr_data (exprs.Template s v) ≡ tree.Template s (to_holes (map hole_data v.items))
expr_data-Template s v = ap expr_data (sym (exprs.rolls-Template s v)) ∙ search (fold-roll-BoundExpr)

pub expr_data-Path : (k : PathKind) (s : List ℕ) (v : Vec holes.BoundHole Global)
    → expr_data (exprs.Path k s v) ≡ tree.Path k s (to_holes (map hole_data v.items))
expr_data-Path k s v = ap expr_data (sym (exprs.rolls-Path k s v)) ∙ search (fold-roll-BoundExpr)

pub expr_data-Name : (t : Target)
    → expr_data (exprs.Name t) ≡ tree.Name t
expr_data-Name t = ap expr_data (sym (exprs.rolls-Name t)) ∙ search (fold-roll-BoundExpr)

pub expr_data-List : (v : Vec elements.BoundElement Global)
    → expr_data (exprs.List v) ≡ tree.Elements (to_elements (map element_data v.items))
expr_data-List v = ap expr_data (sym (exprs.rolls-List v)) ∙ search (fold-roll-BoundExpr)

pub expr_data-Object : (v : Vec BoundProp Global)
    → expr_data (exprs.Object v) ≡ tree.Object (to_props (map prop_data v.items))
expr_data-Object v = ap expr_data (sym (exprs.rolls-Object v)) ∙ search (fold-roll-BoundExpr)

pub part_data-Member : (x : List ℕ)
    → part_data (parts.Member x) ≡ tree.Member x
part_data-Member x = ap part_data (sym (parts.rolls-Member x)) ∙ search (fold-roll-BoundPart)

pub part_data-Index : (e : Box BoundExpr Global)
    → part_data (parts.Index e) ≡ tree.Index (expr_data e.value)
part_data-Index e = ap part_data (sym (parts.rolls-Index e)) ∙ search (fold-roll-BoundPart)

pub part_data-Call : (v : Vec BoundExpr Global)
    → part_data (parts.Call v) ≡ tree.Call (to_exprs (map expr_data v.items))
part_data-Call v = ap part_data (sym (parts.rolls-Call v)) ∙ search (fold-roll-BoundPart)

pub prop_data-Named : (x : List ℕ) (e : BoundExpr)
    → prop_data (props.Named x e) ≡ tree.Named x (expr_data e)
prop_data-Named x e = ap prop_data (sym (props.rolls-Named x e)) ∙ search (fold-roll-BoundProp)

pub prop_data-Quoted : (x : List ℕ) (e : BoundExpr)
    → prop_data (props.Quoted x e) ≡ tree.Quoted x (expr_data e)
prop_data-Quoted x e = ap prop_data (sym (props.rolls-Quoted x e)) ∙ search (fold-roll-BoundProp)

pub prop_data-Short : (x : List ℕ) (t : Target)
    → prop_data (props.Short x t) ≡ tree.Short x t
prop_data-Short x t = ap prop_data (sym (props.rolls-Short x t)) ∙ search (fold-roll-BoundProp)

pub prop_data-Spread : (e : BoundExpr)
    → prop_data (props.Spread e) ≡ tree.Spread (expr_data e)
prop_data-Spread e = ap prop_data (sym (props.rolls-Spread e)) ∙ search (fold-roll-BoundProp)

pub stmt_data-Const : (n : ℕ) (t : Option (Box TypeNode Global)) (e : BoundExpr)
    → stmt_data (stmts.Const n t e) ≡ tree.Const n (note_tree t) (expr_data e)
stmt_data-Const n t e = ap stmt_data (sym (stmts.rolls-Const n t e)) ∙ search (fold-roll-BoundStmt)

pub stmt_data-Let : (n : ℕ) (t : Option (Box TypeNode Global)) (e : Option BoundExpr)
    → stmt_data (stmts.Let n t e) ≡ tree.Let n (note_tree t) (option_map expr_data e)
stmt_data-Let n t e = ap stmt_data (sym (stmts.rolls-Let n t e)) ∙ search (fold-roll-BoundStmt)

pub stmt_data-Assign : (n : ℕ) (e : BoundExpr)
    → stmt_data (stmts.Assign n e) ≡ tree.Assign n (expr_data e)
stmt_data-Assign n e = ap stmt_data (sym (stmts.rolls-Assign n e)) ∙ search (fold-roll-BoundStmt)

pub stmt_data-If : (a : BoundExpr) (s : Box BoundStmt Global) (o : Option (Box BoundStmt Global))
    → stmt_data (stmts.If a s o) ≡ tree.If (expr_data a) (stmt_data s.value) (to_stmt (option_map (λ b. stmt_data b.value) o))
stmt_data-If a s None = ap stmt_data (sym (stmts.rolls-If a s None)) ∙ search (fold-roll-BoundStmt)
stmt_data-If a s (Some o) = ap stmt_data (sym (stmts.rolls-If a s (Some o))) ∙ search (fold-roll-BoundStmt)

pub stmt_data-For : (k : LoopKind) (n : ℕ) (e : BoundExpr) (s : Box BoundStmt Global)
    → stmt_data (stmts.For k n e s) ≡ tree.For k n (expr_data e) (stmt_data s.value)
stmt_data-For k n e s = ap stmt_data (sym (stmts.rolls-For k n e s)) ∙ search (fold-roll-BoundStmt)

pub stmt_data-Return : (e : Option BoundExpr)
    → stmt_data (stmts.Return e) ≡ tree.Return (option_map expr_data e)
stmt_data-Return e = ap stmt_data (sym (stmts.rolls-Return e)) ∙ search (fold-roll-BoundStmt)

pub stmt_data-Value : (e : BoundExpr)
    → stmt_data (stmts.Value e) ≡ tree.Value (expr_data e)
stmt_data-Value e = ap stmt_data (sym (stmts.rolls-Value e)) ∙ search (fold-roll-BoundStmt)

pub stmt_data-Block : (v : Vec BoundStmt Global)
    → stmt_data (stmts.Block v) ≡ tree.Block (to_stmts (map stmt_data v.items))
stmt_data-Block v = ap stmt_data (sym (stmts.rolls-Block v)) ∙ search (fold-roll-BoundStmt)

pub stmt_data-Empty : stmt_data stmts.Empty ≡ tree.Empty
stmt_data-Empty = ap stmt_data (sym stmts.rolls-Empty) ∙ search (fold-roll-BoundStmt)

pub operand_data-made : (o : BinaryOp) (e : BoundExpr)
    → operand_data (operands.roll-BoundOperand (record { operator = o; value = e })) ≡ tree.Operand o (expr_data e)
operand_data-made o e = search (fold-roll-BoundOperand)

pub element_data-made : (o : Bool) (e : BoundExpr)
    → element_data (elements.roll-BoundElement (record { spread = o; value = e })) ≡ tree.Element o (expr_data e)
element_data-made o e = search (fold-roll-BoundElement)

pub hole_data-made : (o : List ℕ) (e : BoundExpr)
    → hole_data (holes.roll-BoundHole (record { value = e; text = o })) ≡ tree.Hole (expr_data e) o
hole_data-made o e = search (fold-roll-BoundHole)

pub ruleset bound_views = (
  expr_data-Arrow,
  expr_data-Cond,
  expr_data-Chain,
  expr_data-Unary,
  expr_data-Postfix,
  expr_data-Number,
  expr_data-Str,
  expr_data-True,
  expr_data-False,
  expr_data-Undefined,
  expr_data-Template,
  expr_data-Path,
  expr_data-Name,
  expr_data-List,
  expr_data-Object,
  part_data-Member,
  part_data-Index,
  part_data-Call,
  prop_data-Named,
  prop_data-Quoted,
  prop_data-Short,
  prop_data-Spread,
  stmt_data-Const,
  stmt_data-Let,
  stmt_data-Assign,
  stmt_data-If,
  stmt_data-For,
  stmt_data-Return,
  stmt_data-Value,
  stmt_data-Block,
  stmt_data-Empty,
  operand_data-made,
  element_data-made,
  hole_data-made,
)
