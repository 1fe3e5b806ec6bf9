-- How many nodes expressions and statements have, at all depths, by which the walk over them ends.
use Rattle.std.proofs.Common.{◌*◌, ◌+◌, ◌<◌, ◌∙◌, ◌∷◌, ◌≡◌, ◌≤◌, ℕ, List, None, Option, Some, [], ap, arith, get_or, length, map, suc, sum_by, zero}
use Rattle.std.proofs.Math.Nat.{suc-mul}
use Rattle.std.proofs.lemmas.List.Sums.{sum_by-cons}
use Rattle.std.specs.List.{slice_get}
use Rattle.dscript_program.specs.BoundTree as tree
use Rattle.dscript_program.specs.BoundTree.{BodyData, ElementData, ElementRow, ExprData, ExprRow, HoleData, HoleRow, MaybeStmt, OperandData, OperandRow, PartData, PartRow, PropData, PropRow, StmtData, StmtRow, to_elements, to_exprs, to_holes, to_operands, to_parts, to_props, to_stmts}
use Rattle.dscript_program.specs.ProgramData.{FunctionData, ProgramData}
use Rattle.dscript_program.specs.Views.{element_data, expr_data, hole_data, operand_data, part_data, prop_data, stmt_data}
use Rattle.dscript_program.specs.declared.bound.BoundElement.{BoundElement}
use Rattle.dscript_program.specs.declared.bound.BoundExpr.{BoundExpr}
use Rattle.dscript_program.specs.declared.bound.BoundHole.{BoundHole}
use Rattle.dscript_program.specs.declared.bound.BoundOperand.{BoundOperand}
use Rattle.dscript_program.specs.declared.bound.BoundPart.{BoundPart}
use Rattle.dscript_program.specs.declared.bound.BoundProp.{BoundProp}
use Rattle.dscript_program.specs.declared.bound.BoundStmt.{BoundStmt}
use Rattle.dscript_types_meaning.specs.Lookups.{function_at}

abbrev mutual
  pub expr_weight : ExprData → ℕ
  expr_weight (tree.Arrow number) = 1
  expr_weight (tree.Cond x a b) = 1 + (expr_weight x + (expr_weight a + expr_weight b))
  expr_weight (tree.Chain e more) = 1 + (expr_weight e + operands_weight more)
  expr_weight (tree.Unary ops e) = 1 + expr_weight e
  expr_weight (tree.Postfix e parts) = 1 + (expr_weight e + parts_weight parts)
  expr_weight (tree.Number n) = 1
  expr_weight (tree.Str text) = 1
  expr_weight tree.True = 1
  expr_weight tree.False = 1
  expr_weight tree.Undefined = 1
  expr_weight (tree.Template text holes) = 1 + holes_weight holes
  expr_weight (tree.Path letter text holes) = 1 + holes_weight holes
  expr_weight (tree.Name target) = 1
  expr_weight (tree.Elements es) = 1 + elements_weight es
  expr_weight (tree.Object ps) = 1 + props_weight ps

  pub operand_weight : OperandData → ℕ
  operand_weight (tree.Operand op e) = 1 + expr_weight e

  pub part_weight : PartData → ℕ
  part_weight (tree.Member name) = 1
  part_weight (tree.Index e) = 1 + expr_weight e
  part_weight (tree.Call es) = 1 + exprs_weight es

  pub element_weight : ElementData → ℕ
  element_weight (tree.Element spread e) = 1 + expr_weight e

  pub prop_weight : PropData → ℕ
  prop_weight (tree.Named name e) = 1 + expr_weight e
  prop_weight (tree.Quoted name e) = 1 + expr_weight e
  prop_weight (tree.Short name target) = 1
  prop_weight (tree.Spread e) = 1 + expr_weight e

  pub hole_weight : HoleData → ℕ
  hole_weight (tree.Hole e text) = 1 + expr_weight e

  pub exprs_weight : ExprRow → ℕ
  exprs_weight tree.no_exprs = 0
  exprs_weight (tree.more_exprs e more) = 1 + (expr_weight e + exprs_weight more)

  pub operands_weight : OperandRow → ℕ
  operands_weight tree.no_operands = 0
  operands_weight (tree.more_operands o more) = operand_weight o + operands_weight more

  pub parts_weight : PartRow → ℕ
  parts_weight tree.no_parts = 0
  parts_weight (tree.more_parts p more) = part_weight p + parts_weight more

  pub elements_weight : ElementRow → ℕ
  elements_weight tree.no_elements = 0
  elements_weight (tree.more_elements e more) = element_weight e + elements_weight more

  pub props_weight : PropRow → ℕ
  props_weight tree.no_props = 0
  props_weight (tree.more_props p more) = 1 + (prop_weight p + props_weight more)

  pub holes_weight : HoleRow → ℕ
  holes_weight tree.no_holes = 0
  holes_weight (tree.more_holes h more) = hole_weight h + holes_weight more

abbrev pub maybe_weight : Option ExprData → ℕ
maybe_weight None = 0
maybe_weight (Some e) = expr_weight e

abbrev mutual
  pub stmt_weight : StmtData → ℕ
  stmt_weight (tree.Const n note e) = 1 + expr_weight e
  stmt_weight (tree.Let n note e) = 1 + maybe_weight e
  stmt_weight (tree.Assign n e) = 1 + expr_weight e
  stmt_weight (tree.If x s other) = 1 + (expr_weight x + (stmt_weight s + else_weight other))
  stmt_weight (tree.For kind n list s) = 1 + (expr_weight list + stmt_weight s)
  stmt_weight (tree.Return e) = 1 + maybe_weight e
  stmt_weight (tree.Value e) = 1 + expr_weight e
  stmt_weight (tree.Block ss) = 1 + stmts_weight ss
  stmt_weight tree.Empty = 1

  pub else_weight : MaybeStmt → ℕ
  else_weight tree.no_stmt = 0
  else_weight (tree.a_stmt s) = 1 + stmt_weight s

  pub stmts_weight : StmtRow → ℕ
  stmts_weight tree.no_stmts = 0
  stmts_weight (tree.more_stmts s more) = 1 + (stmt_weight s + stmts_weight more)

abbrev pub body_weight : BodyData → ℕ
body_weight (tree.Expr e) = expr_weight e
body_weight (tree.Stmts ss) = stmts_weight (to_stmts ss)

-- ## Programs

abbrev pub functions_weight : ProgramData → ℕ
functions_weight p = sum_by (λ (f : FunctionData). body_weight f.body) p.functions

-- For each callback that may still stand in another, a walk may go over as much as all functions have.
abbrev pub measure : ProgramData → ℕ → ℕ → ℕ → ℕ
measure p left weight rank = left * (16 * functions_weight p + 16) + (16 * weight + rank)

in_list : (fs : List FunctionData) (number : ℕ) (f : FunctionData) → slice_get fs number ≡ Some f
    → body_weight f.body ≤ sum_by (λ (g : FunctionData). body_weight g.body) fs
in_list [] number f e = cc
in_list (g ∷ fs) zero f e =
    let same : g ≡ f = cc in
    omega (arith, sum_by-cons (λ (h : FunctionData). body_weight h.body) g fs, ap (λ (h : FunctionData). body_weight h.body) same)
in_list (g ∷ fs) (suc number) f e =
    omega (arith, sum_by-cons (λ (h : FunctionData). body_weight h.body) g fs, in_list fs number f e)

pub in_program : (p : ProgramData) (number : ℕ) (f : FunctionData) → function_at p number ≡ Some f
    → body_weight f.body ≤ functions_weight p
in_program p number f e = in_list p.functions number f e

-- the body of a callback
pub below_measure
    : (p : ProgramData) (number left below : ℕ) (f : FunctionData) → function_at p number ≡ Some f → left ≡ suc below
    → measure p below (body_weight f.body) 6 < measure p left 0 2
below_measure p number left below f e is =
    let most = in_program p number f e in
    let more : left * (16 * functions_weight p + 16) ≡ below * (16 * functions_weight p + 16) + (16 * functions_weight p + 16) =
    ap (λ k. k * (16 * functions_weight p + 16)) is ∙ suc-mul below (16 * functions_weight p + 16) in
    omega (arith, most, more)

-- ## Rows

module _ {X D : Type 0} (view : X → D) (weight : D → ℕ) (whole : List D → ℕ)
    (step : (d : D) (ds : List D) → weight d ≤ whole (d ∷ ds)) (further : (d : D) (ds : List D) → whole ds ≤ whole (d ∷ ds)) where
  -- a node of a row
  pub in_row : (xs : List X) (i : ℕ) (x : X) → i < length xs → x ≡ get_or xs i x → weight (view x) ≤ whole (map view xs)
  in_row [] i x l e = absurd (omega (arith, l))
  in_row (y ∷ xs) zero x l e = omega (arith, step (view y) (map view xs), ap (λ z. weight (view z)) e)
  in_row (y ∷ xs) (suc i) x l e = omega (arith, in_row xs i x (omega (arith, l)) e, further (view y) (map view xs))

pub operand_lighter
    : (os : List BoundOperand) (i : ℕ) (o : BoundOperand) → i < length os → o ≡ get_or os i o
    → operand_weight (operand_data o) ≤ operands_weight (to_operands (map operand_data os))
operand_lighter os i o l e =
    in_row operand_data operand_weight (λ ds. operands_weight (to_operands ds)) (λ d ds. omega arith) (λ d ds. omega arith) os i o l e

pub part_lighter
    : (ps : List BoundPart) (i : ℕ) (p : BoundPart) → i < length ps → p ≡ get_or ps i p
    → part_weight (part_data p) ≤ parts_weight (to_parts (map part_data ps))
part_lighter ps i p l e =
    in_row part_data part_weight (λ ds. parts_weight (to_parts ds)) (λ d ds. omega arith) (λ d ds. omega arith) ps i p l e

pub element_lighter
    : (es : List BoundElement) (i : ℕ) (x : BoundElement) → i < length es → x ≡ get_or es i x
    → element_weight (element_data x) ≤ elements_weight (to_elements (map element_data es))
element_lighter es i x l e =
    in_row element_data element_weight (λ ds. elements_weight (to_elements ds)) (λ d ds. omega arith) (λ d ds. omega arith) es i x l e

pub hole_lighter
    : (hs : List BoundHole) (i : ℕ) (h : BoundHole) → i < length hs → h ≡ get_or hs i h
    → hole_weight (hole_data h) ≤ holes_weight (to_holes (map hole_data hs))
hole_lighter hs i h l e =
    in_row hole_data hole_weight (λ ds. holes_weight (to_holes ds)) (λ d ds. omega arith) (λ d ds. omega arith) hs i h l e

pub prop_lighter
    : (ps : List BoundProp) (i : ℕ) (p : BoundProp) → i < length ps → p ≡ get_or ps i p
    → prop_weight (prop_data p) ≤ props_weight (to_props (map prop_data ps))
prop_lighter ps i p l e =
    in_row prop_data prop_weight (λ ds. props_weight (to_props ds)) (λ d ds. omega arith) (λ d ds. omega arith) ps i p l e

pub expr_lighter
    : (es : List BoundExpr) (i : ℕ) (x : BoundExpr) → i < length es → x ≡ get_or es i x
    → 1 + expr_weight (expr_data x) ≤ exprs_weight (to_exprs (map expr_data es))
expr_lighter es i x l e =
    in_row expr_data (λ d. 1 + expr_weight d) (λ ds. exprs_weight (to_exprs ds)) (λ d ds. omega arith) (λ d ds. omega arith) es i x l e

pub stmt_lighter
    : (ss : List BoundStmt) (i : ℕ) (s : BoundStmt) → i < length ss → s ≡ get_or ss i s
    → stmt_weight (stmt_data s) ≤ stmts_weight (to_stmts (map stmt_data ss))
stmt_lighter ss i s l e =
    in_row stmt_data stmt_weight (λ ds. stmts_weight (to_stmts ds)) (λ d ds. omega arith) (λ d ds. omega arith) ss i s l e
