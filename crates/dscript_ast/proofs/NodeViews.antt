-- The tree that contracts see of each node that the program makes.
use Rattle.std.proofs.Common.{◌≡◌, ℕ, ℤ, Bool, List, Option, Some, None, map, option_map, ap, sym, ◌∙◌}
use Rattle.std.specs.declared.alloc.Global.{Global}
use Rattle.std.specs.declared.boxed.Box.{Box}
use Rattle.std.specs.declared.vec.Vec.{Vec}
use Rattle.dscript_ast.specs.declared.precedence.TheConstants.{PRODUCT, SUM, RELATION, EQUALITY, AND, OR}
use Rattle.dscript_ast.specs.TypeTree.{Union, Array, Named, Str, Number, Undefined, True, False, Body, Function, Field, Property, Method, to_types, to_fields, to_members}
use Rattle.dscript_ast.specs.Views.{type_tree, member_tree, field_tree}
use Rattle.dscript_ast.specs.declared.type_node.TypeNode.{TypeNode}
use Rattle.dscript_ast.specs.declared.type_node.TypeNode.TheVariants as types
use Rattle.dscript_ast.specs.declared.type_node.Member.{Member}
use Rattle.dscript_ast.specs.declared.type_node.Member.TheVariants as members
use Rattle.dscript_ast.specs.declared.type_node.Member.TheFolds.{fold-roll-TypeNode, fold-roll-Member, fold-roll-Field}
use Rattle.dscript_ast.specs.declared.type_node.Field as fields
use Rattle.dscript_ast.specs.ExprTree as tree
use Rattle.dscript_ast.specs.ExprTree.{to_exprs, to_operands, to_parts, to_elements, to_props, to_holes, to_stmts, to_expr, to_stmt}
use Rattle.dscript_ast.specs.FileTree as files
use Rattle.dscript_ast.specs.FileTree.{to_marked}
use Rattle.dscript_ast.specs.Views.{note_tree, param_tree, head_tree, expr_tree, stmt_tree, operand_tree, part_tree, element_tree, prop_tree, hole_tree, decl_tree, marked_tree}
use Rattle.dscript_ast.specs.declared.expr.ArrowHead.{ArrowHead}
use Rattle.dscript_ast.specs.declared.expr.LoopKind.{LoopKind}
use Rattle.dscript_ast.specs.declared.operator.BinaryOp.{BinaryOp}
use Rattle.dscript_ast.specs.declared.expr.PathKind.{PathKind}
use Rattle.dscript_ast.specs.declared.operator.UnaryOp.{UnaryOp}
use Rattle.dscript_ast.specs.declared.expr.Param.{Param}
use Rattle.dscript_ast.specs.declared.expr.Expr.{Expr}
use Rattle.dscript_ast.specs.declared.expr.Expr.TheVariants as exprs
use Rattle.dscript_ast.specs.declared.expr.Stmt.{Stmt}
use Rattle.dscript_ast.specs.declared.expr.Stmt.TheVariants as stmts
use Rattle.dscript_ast.specs.declared.expr.PostfixPart.{PostfixPart}
use Rattle.dscript_ast.specs.declared.expr.PostfixPart.TheVariants as parts
use Rattle.dscript_ast.specs.declared.expr.Prop.{Prop}
use Rattle.dscript_ast.specs.declared.expr.Prop.TheVariants as props
use Rattle.dscript_ast.specs.declared.expr.Operand as operands
use Rattle.dscript_ast.specs.declared.expr.Element as elements
use Rattle.dscript_ast.specs.declared.expr.Hole as holes
use Rattle.dscript_ast.specs.declared.expr.Expr.TheFolds.{fold-roll-Expr, fold-roll-Stmt, fold-roll-PostfixPart, fold-roll-Prop, fold-roll-Operand, fold-roll-Element, fold-roll-Hole}
use Rattle.dscript_ast.specs.declared.file.Mark.{Mark}
use Rattle.dscript_ast.specs.declared.file.Decl.{Decl}
use Rattle.dscript_ast.specs.declared.file.Decl.TheVariants as decls
use Rattle.dscript_ast.specs.declared.file.Marked as marked
use Rattle.dscript_ast.specs.declared.file.Decl.TheFolds.{fold-roll-Decl, fold-roll-Marked}

pub type_tree-Union : (v : Vec TypeNode Global) → type_tree (types.Union v) ≡ Union (to_types (map type_tree v.items))
type_tree-Union v = ap type_tree (sym (types.rolls-Union v)) ∙ search (fold-roll-TypeNode)

pub type_tree-Array : (t : Box TypeNode Global) (n : ℕ) → type_tree (types.Array t n) ≡ Array (type_tree t.value) n
type_tree-Array t n = ap type_tree (sym (types.rolls-Array t n)) ∙ search (fold-roll-TypeNode)

pub type_tree-Named : (xs : Vec (List ℕ) Global) (v : Vec TypeNode Global) → type_tree (types.Named xs v) ≡ Named xs.items (to_types (map type_tree v.items))
type_tree-Named xs v = ap type_tree (sym (types.rolls-Named xs v)) ∙ search (fold-roll-TypeNode)

pub type_tree-Str : (s : List ℕ) → type_tree (types.Str s) ≡ Str s
type_tree-Str s = ap type_tree (sym (types.rolls-Str s)) ∙ search (fold-roll-TypeNode)

pub type_tree-Number : (n : ℤ) → type_tree (types.Number n) ≡ Number n
type_tree-Number n = ap type_tree (sym (types.rolls-Number n)) ∙ search (fold-roll-TypeNode)

pub type_tree-Undefined : type_tree types.Undefined ≡ Undefined
type_tree-Undefined = ap type_tree (sym types.rolls-Undefined) ∙ search (fold-roll-TypeNode)

pub type_tree-True : type_tree types.True ≡ True
type_tree-True = ap type_tree (sym types.rolls-True) ∙ search (fold-roll-TypeNode)

pub type_tree-False : type_tree types.False ≡ False
type_tree-False = ap type_tree (sym types.rolls-False) ∙ search (fold-roll-TypeNode)

pub type_tree-Body : (v : Vec Member Global) → type_tree (types.Body v) ≡ Body (to_members (map member_tree v.items))
type_tree-Body v = ap type_tree (sym (types.rolls-Body v)) ∙ search (fold-roll-TypeNode)

pub type_tree-Function : (v : Vec fields.Field Global) (t : Box TypeNode Global) → type_tree (types.Function v t) ≡ Function (to_fields (map field_tree v.items)) (type_tree t.value)
type_tree-Function v t = ap type_tree (sym (types.rolls-Function v t)) ∙ search (fold-roll-TypeNode)

pub member_tree-Property : (x : List ℕ) (o : Bool) (t : TypeNode) → member_tree (members.Property x o t) ≡ Property x o (type_tree t)
member_tree-Property x o t = ap member_tree (sym (members.rolls-Property x o t)) ∙ search (fold-roll-Member)

pub member_tree-Method : (x : List ℕ) (o : Bool) (v : Vec fields.Field Global) (t : TypeNode) → member_tree (members.Method x o v t) ≡ Method x o (to_fields (map field_tree v.items)) (type_tree t)
member_tree-Method x o v t = ap member_tree (sym (members.rolls-Method x o v t)) ∙ search (fold-roll-Member)

pub field_tree-made : (x : List ℕ) (o : Bool) (t : TypeNode) → field_tree (fields.roll-Field (record { name = x; optional = o; type_node = t })) ≡ Field x o (type_tree t)
field_tree-made x o t = search (fold-roll-Field)

pub ruleset type_views = (
  field_tree-made,
  type_tree-Union,
  type_tree-Array,
  type_tree-Named,
  type_tree-Str,
  type_tree-Number,
  type_tree-Undefined,
  type_tree-True,
  type_tree-False,
  type_tree-Body,
  type_tree-Function,
  member_tree-Property,
  member_tree-Method,
)

pub expr_tree-Arrow : (x : Box ArrowHead Global) (e : Box Expr Global) → expr_tree (exprs.Arrow x e) ≡ tree.Arrow (head_tree x.value) (expr_tree e.value)
expr_tree-Arrow x e = ap expr_tree (sym (exprs.rolls-Arrow x e)) ∙ search (fold-roll-Expr)

pub expr_tree-BlockArrow : (x : Box ArrowHead Global) (v : Vec Stmt Global) → expr_tree (exprs.BlockArrow x v) ≡ tree.BlockArrow (head_tree x.value) (to_stmts (map stmt_tree v.items))
expr_tree-BlockArrow x v = ap expr_tree (sym (exprs.rolls-BlockArrow x v)) ∙ search (fold-roll-Expr)

pub expr_tree-Cond : (c : Box Expr Global) (a : Box Expr Global) (b : Box Expr Global) → expr_tree (exprs.Cond c a b) ≡ tree.Cond (expr_tree c.value) (expr_tree a.value) (expr_tree b.value)
expr_tree-Cond c a b = ap expr_tree (sym (exprs.rolls-Cond c a b)) ∙ search (fold-roll-Expr)

pub expr_tree-Or : (e : Box Expr Global) (v : Vec operands.Operand Global) → expr_tree (exprs.Or e v) ≡ tree.Chain OR (expr_tree e.value) (to_operands (map operand_tree v.items))
expr_tree-Or e v = ap expr_tree (sym (exprs.rolls-Or e v)) ∙ search (fold-roll-Expr)

pub expr_tree-And : (e : Box Expr Global) (v : Vec operands.Operand Global) → expr_tree (exprs.And e v) ≡ tree.Chain AND (expr_tree e.value) (to_operands (map operand_tree v.items))
expr_tree-And e v = ap expr_tree (sym (exprs.rolls-And e v)) ∙ search (fold-roll-Expr)

pub expr_tree-Equality : (e : Box Expr Global) (v : Vec operands.Operand Global) → expr_tree (exprs.Equality e v) ≡ tree.Chain EQUALITY (expr_tree e.value) (to_operands (map operand_tree v.items))
expr_tree-Equality e v = ap expr_tree (sym (exprs.rolls-Equality e v)) ∙ search (fold-roll-Expr)

pub expr_tree-Relation : (e : Box Expr Global) (v : Vec operands.Operand Global) → expr_tree (exprs.Relation e v) ≡ tree.Chain RELATION (expr_tree e.value) (to_operands (map operand_tree v.items))
expr_tree-Relation e v = ap expr_tree (sym (exprs.rolls-Relation e v)) ∙ search (fold-roll-Expr)

pub expr_tree-Sum : (e : Box Expr Global) (v : Vec operands.Operand Global) → expr_tree (exprs.Sum e v) ≡ tree.Chain SUM (expr_tree e.value) (to_operands (map operand_tree v.items))
expr_tree-Sum e v = ap expr_tree (sym (exprs.rolls-Sum e v)) ∙ search (fold-roll-Expr)

pub expr_tree-Product : (e : Box Expr Global) (v : Vec operands.Operand Global) → expr_tree (exprs.Product e v) ≡ tree.Chain PRODUCT (expr_tree e.value) (to_operands (map operand_tree v.items))
expr_tree-Product e v = ap expr_tree (sym (exprs.rolls-Product e v)) ∙ search (fold-roll-Expr)

pub expr_tree-Unary : (ops : Vec UnaryOp Global) (e : Box Expr Global) → expr_tree (exprs.Unary ops e) ≡ tree.Unary ops.items (expr_tree e.value)
expr_tree-Unary ops e = ap expr_tree (sym (exprs.rolls-Unary ops e)) ∙ search (fold-roll-Expr)

pub expr_tree-Postfix : (e : Box Expr Global) (v : Vec PostfixPart Global) → expr_tree (exprs.Postfix e v) ≡ tree.Postfix (expr_tree e.value) (to_parts (map part_tree v.items))
expr_tree-Postfix e v = ap expr_tree (sym (exprs.rolls-Postfix e v)) ∙ search (fold-roll-Expr)

pub expr_tree-Number : (n : ℤ) → expr_tree (exprs.Number n) ≡ tree.Number n
expr_tree-Number n = ap expr_tree (sym (exprs.rolls-Number n)) ∙ search (fold-roll-Expr)

pub expr_tree-Str : (x : List ℕ) → expr_tree (exprs.Str x) ≡ tree.Str x
expr_tree-Str x = ap expr_tree (sym (exprs.rolls-Str x)) ∙ search (fold-roll-Expr)

pub expr_tree-True : expr_tree exprs.True ≡ tree.True
expr_tree-True = ap expr_tree (sym exprs.rolls-True) ∙ search (fold-roll-Expr)

pub expr_tree-False : expr_tree exprs.False ≡ tree.False
expr_tree-False = ap expr_tree (sym exprs.rolls-False) ∙ search (fold-roll-Expr)

pub expr_tree-Undefined : expr_tree exprs.Undefined ≡ tree.Undefined
expr_tree-Undefined = ap expr_tree (sym exprs.rolls-Undefined) ∙ search (fold-roll-Expr)

pub expr_tree-Template : (x : List ℕ) (v : Vec holes.Hole Global) → expr_tree (exprs.Template x v) ≡ tree.Template x (to_holes (map hole_tree v.items))
expr_tree-Template x v = ap expr_tree (sym (exprs.rolls-Template x v)) ∙ search (fold-roll-Expr)

pub expr_tree-Path : (k : PathKind) (x : List ℕ) (v : Vec holes.Hole Global) → expr_tree (exprs.Path k x v) ≡ tree.Path k x (to_holes (map hole_tree v.items))
expr_tree-Path k x v = ap expr_tree (sym (exprs.rolls-Path k x v)) ∙ search (fold-roll-Expr)

pub expr_tree-Name : (x : List ℕ) → expr_tree (exprs.Name x) ≡ tree.Name x
expr_tree-Name x = ap expr_tree (sym (exprs.rolls-Name x)) ∙ search (fold-roll-Expr)

pub expr_tree-List : (v : Vec elements.Element Global) → expr_tree (exprs.List v) ≡ tree.Elements (to_elements (map element_tree v.items))
expr_tree-List v = ap expr_tree (sym (exprs.rolls-List v)) ∙ search (fold-roll-Expr)

pub expr_tree-Object : (v : Vec Prop Global) → expr_tree (exprs.Object v) ≡ tree.Object (to_props (map prop_tree v.items))
expr_tree-Object v = ap expr_tree (sym (exprs.rolls-Object v)) ∙ search (fold-roll-Expr)

pub stmt_tree-Const : (x : List ℕ) (t : Option (Box TypeNode Global)) (e : Expr) → stmt_tree (stmts.Const x t e) ≡ tree.Const x (note_tree t) (expr_tree e)
stmt_tree-Const x t e = ap stmt_tree (sym (stmts.rolls-Const x t e)) ∙ search (fold-roll-Stmt)

pub stmt_tree-Let : (x : List ℕ) (t : Option (Box TypeNode Global)) (e : Option Expr) → stmt_tree (stmts.Let x t e) ≡ tree.Let x (note_tree t) (to_expr (option_map expr_tree e))
stmt_tree-Let x t None = ap stmt_tree (sym (stmts.rolls-Let x t None)) ∙ search (fold-roll-Stmt)
stmt_tree-Let x t (Some e) = ap stmt_tree (sym (stmts.rolls-Let x t (Some e))) ∙ search (fold-roll-Stmt)

pub stmt_tree-Assign : (x : List ℕ) (e : Expr) → stmt_tree (stmts.Assign x e) ≡ tree.Assign x (expr_tree e)
stmt_tree-Assign x e = ap stmt_tree (sym (stmts.rolls-Assign x e)) ∙ search (fold-roll-Stmt)

pub stmt_tree-For : (k : LoopKind) (x : List ℕ) (e : Expr) (b : Box Stmt Global) → stmt_tree (stmts.For k x e b) ≡ tree.For k x (expr_tree e) (stmt_tree b.value)
stmt_tree-For k x e b = ap stmt_tree (sym (stmts.rolls-For k x e b)) ∙ search (fold-roll-Stmt)

pub stmt_tree-Return : (e : Option Expr) → stmt_tree (stmts.Return e) ≡ tree.Return (to_expr (option_map expr_tree e))
stmt_tree-Return None = ap stmt_tree (sym (stmts.rolls-Return None)) ∙ search (fold-roll-Stmt)
stmt_tree-Return (Some e) = ap stmt_tree (sym (stmts.rolls-Return (Some e))) ∙ search (fold-roll-Stmt)

pub stmt_tree-Value : (e : Expr) → stmt_tree (stmts.Value e) ≡ tree.Value (expr_tree e)
stmt_tree-Value e = ap stmt_tree (sym (stmts.rolls-Value e)) ∙ search (fold-roll-Stmt)

pub stmt_tree-Block : (v : Vec Stmt Global) → stmt_tree (stmts.Block v) ≡ tree.Block (to_stmts (map stmt_tree v.items))
stmt_tree-Block v = ap stmt_tree (sym (stmts.rolls-Block v)) ∙ search (fold-roll-Stmt)

pub stmt_tree-Empty : stmt_tree stmts.Empty ≡ tree.Empty
stmt_tree-Empty = ap stmt_tree (sym stmts.rolls-Empty) ∙ search (fold-roll-Stmt)

pub part_tree-Member : (x : List ℕ) → part_tree (parts.Member x) ≡ tree.Member x
part_tree-Member x = ap part_tree (sym (parts.rolls-Member x)) ∙ search (fold-roll-PostfixPart)

pub part_tree-Index : (e : Box Expr Global) → part_tree (parts.Index e) ≡ tree.Index (expr_tree e.value)
part_tree-Index e = ap part_tree (sym (parts.rolls-Index e)) ∙ search (fold-roll-PostfixPart)

pub part_tree-Call : (v : Vec Expr Global) → part_tree (parts.Call v) ≡ tree.Call (to_exprs (map expr_tree v.items))
part_tree-Call v = ap part_tree (sym (parts.rolls-Call v)) ∙ search (fold-roll-PostfixPart)

pub prop_tree-Named : (x : List ℕ) (e : Expr) → prop_tree (props.Named x e) ≡ tree.Named x (expr_tree e)
prop_tree-Named x e = ap prop_tree (sym (props.rolls-Named x e)) ∙ search (fold-roll-Prop)

pub prop_tree-Quoted : (x : List ℕ) (e : Expr) → prop_tree (props.Quoted x e) ≡ tree.Quoted x (expr_tree e)
prop_tree-Quoted x e = ap prop_tree (sym (props.rolls-Quoted x e)) ∙ search (fold-roll-Prop)

pub prop_tree-Short : (x : List ℕ) → prop_tree (props.Short x) ≡ tree.Short x
prop_tree-Short x = ap prop_tree (sym (props.rolls-Short x)) ∙ search (fold-roll-Prop)

pub prop_tree-Spread : (e : Expr) → prop_tree (props.Spread e) ≡ tree.Spread (expr_tree e)
prop_tree-Spread e = ap prop_tree (sym (props.rolls-Spread e)) ∙ search (fold-roll-Prop)

pub stmt_tree-If : (c : Expr) (b : Box Stmt Global) (o : Option (Box Stmt Global)) → stmt_tree (stmts.If c b o) ≡ tree.If (expr_tree c) (stmt_tree b.value) (to_stmt (option_map (λ x. stmt_tree x.value) o))
stmt_tree-If c b None = ap stmt_tree (sym (stmts.rolls-If c b None)) ∙ search (fold-roll-Stmt)
stmt_tree-If c b (Some x) = ap stmt_tree (sym (stmts.rolls-If c b (Some x))) ∙ search (fold-roll-Stmt)

pub operand_tree-made : (op : BinaryOp) (e : Expr) → operand_tree (operands.roll-Operand (record { operator = op; value = e })) ≡ tree.Operand op (expr_tree e)
operand_tree-made op e = search (fold-roll-Operand)

pub element_tree-made : (b : Bool) (e : Expr) → element_tree (elements.roll-Element (record { spread = b; value = e })) ≡ tree.Element b (expr_tree e)
element_tree-made b e = search (fold-roll-Element)

pub hole_tree-made : (e : Expr) (x : List ℕ) → hole_tree (holes.roll-Hole (record { value = e; text = x })) ≡ tree.Hole (expr_tree e) x
hole_tree-made e x = search (fold-roll-Hole)

pub decl_tree-Const : (x : List ℕ) (t : Option (Box TypeNode Global)) (e : Expr) → decl_tree (decls.Const x t e) ≡ files.Const x (note_tree t) (expr_tree e)
decl_tree-Const x t e = ap decl_tree (sym (decls.rolls-Const x t e)) ∙ search (fold-roll-Decl)

pub decl_tree-Function : (x : List ℕ) (ts : Vec (List ℕ) Global) (ps : Vec Param Global) (t : Option (Box TypeNode Global)) (ss : Vec Stmt Global) → decl_tree (decls.Function x ts ps t ss) ≡ files.Function x ts.items (map param_tree ps.items) (note_tree t) (map stmt_tree ss.items)
decl_tree-Function x ts ps t ss = ap decl_tree (sym (decls.rolls-Function x ts ps t ss)) ∙ search (fold-roll-Decl)

pub decl_tree-Namespace : (xs : Vec (List ℕ) Global) (v : Vec marked.Marked Global) → decl_tree (decls.Namespace xs v) ≡ files.Namespace xs.items (to_marked (map marked_tree v.items))
decl_tree-Namespace xs v = ap decl_tree (sym (decls.rolls-Namespace xs v)) ∙ search (fold-roll-Decl)

pub decl_tree-Interface : (x : List ℕ) (ts : Vec (List ℕ) Global) (es : Vec TypeNode Global) (ms : Vec Member Global) → decl_tree (decls.Interface x ts es ms) ≡ files.Interface x ts.items (map type_tree es.items) (map member_tree ms.items)
decl_tree-Interface x ts es ms = ap decl_tree (sym (decls.rolls-Interface x ts es ms)) ∙ search (fold-roll-Decl)

pub decl_tree-TypeAlias : (x : List ℕ) (ts : Vec (List ℕ) Global) (t : TypeNode) → decl_tree (decls.TypeAlias x ts t) ≡ files.TypeAlias x ts.items (type_tree t)
decl_tree-TypeAlias x ts t = ap decl_tree (sym (decls.rolls-TypeAlias x ts t)) ∙ search (fold-roll-Decl)

pub marked_tree-made : (m : Mark) (d : Decl) → marked_tree (marked.roll-Marked (record { mark = m; decl = d })) ≡ files.Marked m (decl_tree d)
marked_tree-made m d = search (fold-roll-Marked)

pub ruleset tree_views = (
  expr_tree-Arrow,
  expr_tree-BlockArrow,
  expr_tree-Cond,
  expr_tree-Or,
  expr_tree-And,
  expr_tree-Equality,
  expr_tree-Relation,
  expr_tree-Sum,
  expr_tree-Product,
  expr_tree-Unary,
  expr_tree-Postfix,
  expr_tree-Number,
  expr_tree-Str,
  expr_tree-True,
  expr_tree-False,
  expr_tree-Undefined,
  expr_tree-Template,
  expr_tree-Path,
  expr_tree-Name,
  expr_tree-List,
  expr_tree-Object,
  stmt_tree-Const,
  stmt_tree-Let,
  stmt_tree-Assign,
  stmt_tree-For,
  stmt_tree-Return,
  stmt_tree-Value,
  stmt_tree-Block,
  stmt_tree-Empty,
  part_tree-Member,
  part_tree-Index,
  part_tree-Call,
  prop_tree-Named,
  prop_tree-Quoted,
  prop_tree-Short,
  prop_tree-Spread,
  stmt_tree-If,
  operand_tree-made,
  element_tree-made,
  hole_tree-made,
  decl_tree-Const,
  decl_tree-Function,
  decl_tree-Namespace,
  decl_tree-Interface,
  decl_tree-TypeAlias,
  marked_tree-made,
)
