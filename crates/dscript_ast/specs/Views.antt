-- What contracts see of the trees: plain data, without the pointers and lists that hold them in memory.
use Rattle.std.specs.Prelude.{map, option_map, Option}
use Rattle.std.specs.declared.alloc.Global.{Global}
use Rattle.std.specs.declared.boxed.Box.{Box}
use Rattle.dscript_ast.specs.declared.precedence.TheConstants.{PRODUCT, SUM, RELATION, EQUALITY, AND, OR}
use Rattle.dscript_ast.specs.TypeTree.{TypeTree, Union, Array, Named, Str, Number, Undefined, True, False}
use Rattle.dscript_ast.specs.TypeTree.{Body, Function, FieldTree, Field, MemberTree, Property, Method}
use Rattle.dscript_ast.specs.TypeTree.{to_types, to_fields, to_members}
use Rattle.dscript_ast.specs.ExprTree as tree
use Rattle.dscript_ast.specs.ExprTree.{ParamTree, HeadTree, ExprTree, OperandTree, PartTree, ElementTree}
use Rattle.dscript_ast.specs.ExprTree.{PropTree, HoleTree, StmtTree, to_exprs, to_operands, to_parts}
use Rattle.dscript_ast.specs.ExprTree.{to_elements, to_props, to_holes, to_stmts, to_expr, to_stmt}
use Rattle.dscript_ast.specs.FileTree as files
use Rattle.dscript_ast.specs.FileTree.{MarkedTree, DeclTree, ImportTree, ItemTree, FileTree, to_marked}
use Rattle.dscript_ast.specs.declared.type_node.TypeNode.{TypeNode}
use Rattle.dscript_ast.specs.declared.type_node.Member.{Member}
use Rattle.dscript_ast.specs.declared.type_node.Member.TheOpen.{Member-F, TypeNode-F, Field-F}
use Rattle.dscript_ast.specs.declared.type_node.Member.TheOpen as layer
use Rattle.dscript_ast.specs.declared.type_node.Member.TheFolds.{fold-TypeNode, fold-Member, fold-Field}
use Rattle.dscript_ast.specs.declared.type_node.Field as field
use Rattle.dscript_ast.specs.declared.expr.Param.{Param}
use Rattle.dscript_ast.specs.declared.expr.ArrowHead.{ArrowHead}
use Rattle.dscript_ast.specs.declared.expr.ArrowHead.TheVariants as heads
use Rattle.dscript_ast.specs.declared.expr.Expr.{Expr}
use Rattle.dscript_ast.specs.declared.expr.Stmt.{Stmt}
use Rattle.dscript_ast.specs.declared.expr.Operand.{Operand}
use Rattle.dscript_ast.specs.declared.expr.PostfixPart.{PostfixPart}
use Rattle.dscript_ast.specs.declared.expr.Element.{Element}
use Rattle.dscript_ast.specs.declared.expr.Prop.{Prop}
use Rattle.dscript_ast.specs.declared.expr.Hole.{Hole}
use Rattle.dscript_ast.specs.declared.expr.Expr.TheOpen.{Expr-F, Stmt-F, PostfixPart-F, Prop-F, Element-F}
use Rattle.dscript_ast.specs.declared.expr.Expr.TheOpen.{Hole-F, Operand-F}
use Rattle.dscript_ast.specs.declared.expr.Expr.TheOpen as expr
use Rattle.dscript_ast.specs.declared.expr.Expr.TheFolds.{fold-Expr, fold-Stmt, fold-Operand}
use Rattle.dscript_ast.specs.declared.expr.Expr.TheFolds.{fold-PostfixPart, fold-Element, fold-Prop}
use Rattle.dscript_ast.specs.declared.expr.Expr.TheFolds.{fold-Hole}
use Rattle.dscript_ast.specs.declared.file.Decl.{Decl}
use Rattle.dscript_ast.specs.declared.file.Marked.{Marked}
use Rattle.dscript_ast.specs.declared.file.Decl.TheOpen.{Decl-F, Marked-F}
use Rattle.dscript_ast.specs.declared.file.Decl.TheOpen as decl
use Rattle.dscript_ast.specs.declared.file.Decl.TheFolds.{fold-Decl, fold-Marked}
use Rattle.dscript_ast.specs.declared.file.ImportName.{ImportName}
use Rattle.dscript_ast.specs.declared.file.Item.{Item}
use Rattle.dscript_ast.specs.declared.file.Item.TheVariants as items
use Rattle.dscript_ast.specs.declared.file.File.{File}
use Rattle.dscript_ast.specs.declared.file.File.TheVariants as whole

-- types: one step for each type of the cycle, from the trees of the parts to the tree of the whole
abbrev pub field_step : Field-F MemberTree TypeTree FieldTree → FieldTree
field_step x = Field x.name x.optional x.type_node

abbrev pub member_step : Member-F MemberTree TypeTree FieldTree → MemberTree
member_step (layer.Property x optional t) = Property x optional t
member_step (layer.Method x optional fs t) = Method x optional (to_fields fs.items) t

abbrev pub type_step : TypeNode-F MemberTree TypeTree FieldTree → TypeTree
type_step (layer.Union ts) = Union (to_types ts.items)
type_step (layer.Array t n) = Array t.value n
type_step (layer.Named xs ts) = Named xs.items (to_types ts.items)
type_step (layer.Str s) = Str s
type_step (layer.Number n) = Number n
type_step layer.Undefined = Undefined
type_step layer.True = True
type_step layer.False = False
type_step (layer.Body ms) = Body (to_members ms.items)
type_step (layer.Function fs t) = Function (to_fields fs.items) t.value

abbrev pub type_tree : TypeNode → TypeTree
type_tree = fold-TypeNode MemberTree TypeTree FieldTree member_step type_step field_step

abbrev pub member_tree : Member → MemberTree
member_tree = fold-Member MemberTree TypeTree FieldTree member_step type_step field_step

abbrev pub field_tree : field.Field → FieldTree
field_tree = fold-Field MemberTree TypeTree FieldTree member_step type_step field_step

-- the type of a constant, a parameter or a result, where one is written
abbrev pub note_tree : Option (Box TypeNode Global) → Option TypeTree
note_tree = option_map (λ t. type_tree t.value)

abbrev pub param_tree : Param → ParamTree
param_tree p = record { name = p.name; optional = p.optional; type_node = note_tree p.type_node }

abbrev pub head_tree : ArrowHead → HeadTree
head_tree (heads.Name x) = tree.Single x
head_tree (heads.Params ps) = tree.Params (map param_tree ps.items)

-- expressions and statements
abbrev pub operand_step : Operand-F ExprTree PartTree PropTree StmtTree ElementTree HoleTree OperandTree
    → OperandTree
operand_step x = tree.Operand x.operator x.value

abbrev pub element_step : Element-F ExprTree PartTree PropTree StmtTree ElementTree HoleTree OperandTree
    → ElementTree
element_step x = tree.Element x.spread x.value

abbrev pub hole_step : Hole-F ExprTree PartTree PropTree StmtTree ElementTree HoleTree OperandTree → HoleTree
hole_step x = tree.Hole x.value x.text

abbrev pub part_step : PostfixPart-F ExprTree PartTree PropTree StmtTree ElementTree HoleTree OperandTree
    → PartTree
part_step (expr.Member x) = tree.Member x
part_step (expr.Index e) = tree.Index e.value
part_step (expr.Call es) = tree.Call (to_exprs es.items)

abbrev pub prop_step : Prop-F ExprTree PartTree PropTree StmtTree ElementTree HoleTree OperandTree → PropTree
prop_step (expr.Named x e) = tree.Named x e
prop_step (expr.Quoted s e) = tree.Quoted s e
prop_step (expr.Short x) = tree.Short x
prop_step (expr.Spread e) = tree.Spread e

abbrev pub expr_step : Expr-F ExprTree PartTree PropTree StmtTree ElementTree HoleTree OperandTree → ExprTree
expr_step (expr.Arrow x e) = tree.Arrow (head_tree x.value) e.value
expr_step (expr.BlockArrow x ss) = tree.BlockArrow (head_tree x.value) (to_stmts ss.items)
expr_step (expr.Cond c a b) = tree.Cond c.value a.value b.value
expr_step (expr.Or e more) = tree.Chain OR e.value (to_operands more.items)
expr_step (expr.And e more) = tree.Chain AND e.value (to_operands more.items)
expr_step (expr.Equality e more) = tree.Chain EQUALITY e.value (to_operands more.items)
expr_step (expr.Relation e more) = tree.Chain RELATION e.value (to_operands more.items)
expr_step (expr.Sum e more) = tree.Chain SUM e.value (to_operands more.items)
expr_step (expr.Product e more) = tree.Chain PRODUCT e.value (to_operands more.items)
expr_step (expr.Unary ops e) = tree.Unary ops.items e.value
expr_step (expr.Postfix e parts) = tree.Postfix e.value (to_parts parts.items)
expr_step (expr.Number n) = tree.Number n
expr_step (expr.Str s) = tree.Str s
expr_step expr.True = tree.True
expr_step expr.False = tree.False
expr_step expr.Undefined = tree.Undefined
expr_step (expr.Template text holes) = tree.Template text (to_holes holes.items)
expr_step (expr.Path kind text holes) = tree.Path kind text (to_holes holes.items)
expr_step (expr.Name x) = tree.Name x
expr_step (expr.List es) = tree.Elements (to_elements es.items)
expr_step (expr.Object ps) = tree.Object (to_props ps.items)

abbrev pub stmt_step : Stmt-F ExprTree PartTree PropTree StmtTree ElementTree HoleTree OperandTree → StmtTree
stmt_step (expr.Const x t e) = tree.Const x (note_tree t) e
stmt_step (expr.Let x t e) = tree.Let x (note_tree t) (to_expr e)
stmt_step (expr.Assign x e) = tree.Assign x e
stmt_step (expr.If c s other) = tree.If c s.value (to_stmt (option_map (λ b. b.value) other))
stmt_step (expr.For kind x list s) = tree.For kind x list s.value
stmt_step (expr.Return e) = tree.Return (to_expr e)
stmt_step (expr.Value e) = tree.Value e
stmt_step (expr.Block ss) = tree.Block (to_stmts ss.items)
stmt_step expr.Empty = tree.Empty

abbrev pub expr_tree : Expr → ExprTree
expr_tree =
    fold-Expr ExprTree PartTree PropTree StmtTree ElementTree HoleTree OperandTree
    expr_step part_step prop_step stmt_step element_step hole_step operand_step

abbrev pub part_tree : PostfixPart → PartTree
part_tree =
    fold-PostfixPart ExprTree PartTree PropTree StmtTree ElementTree HoleTree OperandTree
    expr_step part_step prop_step stmt_step element_step hole_step operand_step

abbrev pub prop_tree : Prop → PropTree
prop_tree =
    fold-Prop ExprTree PartTree PropTree StmtTree ElementTree HoleTree OperandTree
    expr_step part_step prop_step stmt_step element_step hole_step operand_step

abbrev pub stmt_tree : Stmt → StmtTree
stmt_tree =
    fold-Stmt ExprTree PartTree PropTree StmtTree ElementTree HoleTree OperandTree
    expr_step part_step prop_step stmt_step element_step hole_step operand_step

abbrev pub element_tree : Element → ElementTree
element_tree =
    fold-Element ExprTree PartTree PropTree StmtTree ElementTree HoleTree OperandTree
    expr_step part_step prop_step stmt_step element_step hole_step operand_step

abbrev pub hole_tree : Hole → HoleTree
hole_tree =
    fold-Hole ExprTree PartTree PropTree StmtTree ElementTree HoleTree OperandTree
    expr_step part_step prop_step stmt_step element_step hole_step operand_step

abbrev pub operand_tree : Operand → OperandTree
operand_tree =
    fold-Operand ExprTree PartTree PropTree StmtTree ElementTree HoleTree OperandTree
    expr_step part_step prop_step stmt_step element_step hole_step operand_step

abbrev pub decl_step : Decl-F DeclTree MarkedTree → DeclTree
decl_step (decl.Const x t e) = files.Const x (note_tree t) (expr_tree e)
decl_step (decl.Function x ts ps t ss) =
    files.Function x ts.items (map param_tree ps.items) (note_tree t) (map stmt_tree ss.items)
decl_step (decl.Namespace xs ms) = files.Namespace xs.items (to_marked ms.items)
decl_step (decl.Interface x ts es ms) =
    files.Interface x ts.items (map type_tree es.items) (map member_tree ms.items)
decl_step (decl.TypeAlias x ts t) = files.TypeAlias x ts.items (type_tree t)

abbrev pub marked_step : Marked-F DeclTree MarkedTree → MarkedTree
marked_step x = files.Marked x.mark x.decl

abbrev pub decl_tree : Decl → DeclTree
decl_tree = fold-Decl DeclTree MarkedTree decl_step marked_step

abbrev pub marked_tree : Marked → MarkedTree
marked_tree = fold-Marked DeclTree MarkedTree decl_step marked_step

-- items and files
abbrev pub import_tree : ImportName → ImportTree
import_tree i = record { name = i.name; alias = i.alias }

abbrev pub item_tree : Item → ItemTree
item_tree (items.ImportAll x from) = files.ImportAll x from
item_tree (items.ImportNames names) =
    files.ImportNames (map import_tree names.value.names.items) names.value.module
item_tree (items.Declared m) = files.Declared (marked_tree m.value)
item_tree items.Empty = files.Empty

abbrev pub file_tree : File → FileTree
file_tree (whole.Project xs) = files.Project (map item_tree xs.items)
file_tree (whole.Config e) = files.Config (expr_tree e)
file_tree (whole.Module e) = files.Module (expr_tree e)
