-- What contracts see of a program: plain data, without the pointers and lists that hold it in memory.
use Rattle.std.specs.Prelude.{map, option_map, Option, None, Some, [], ◌∷◌, ◌++◌}
use Rattle.std.specs.declared.alloc.Global.{Global}
use Rattle.std.specs.declared.rc.Rc.{Rc}
use Rattle.dscript_ast.specs.Views.{note_tree, param_tree, type_tree, member_tree}
use Rattle.dscript_program.specs.BoundTree as tree
use Rattle.dscript_program.specs.BoundTree.{ExprData, OperandData, PartData, ElementData, PropData, HoleData}
use Rattle.dscript_program.specs.BoundTree.{StmtData, BodyData, to_exprs, to_operands, to_parts, to_elements}
use Rattle.dscript_program.specs.BoundTree.{to_props, to_holes, to_stmts, to_stmt}
use Rattle.dscript_program.specs.ProgramData as kinds
use Rattle.dscript_program.specs.ProgramData.{Dotted, FunctionData, KindData, DeclData, FileData, ProgramData}
use Rattle.dscript_program.specs.declared.bound.BoundExpr.{BoundExpr}
use Rattle.dscript_program.specs.declared.bound.BoundExpr.TheOpen.{BoundExpr-F, BoundPart-F, BoundProp-F}
use Rattle.dscript_program.specs.declared.bound.BoundExpr.TheOpen.{BoundElement-F, BoundHole-F}
use Rattle.dscript_program.specs.declared.bound.BoundExpr.TheOpen.{BoundOperand-F}
use Rattle.dscript_program.specs.declared.bound.BoundExpr.TheOpen as expr
use Rattle.dscript_program.specs.declared.bound.BoundExpr.TheFolds.{fold-BoundExpr, fold-BoundPart}
use Rattle.dscript_program.specs.declared.bound.BoundExpr.TheFolds.{fold-BoundProp, fold-BoundElement}
use Rattle.dscript_program.specs.declared.bound.BoundExpr.TheFolds.{fold-BoundHole, fold-BoundOperand}
use Rattle.dscript_program.specs.declared.bound.BoundPart.{BoundPart}
use Rattle.dscript_program.specs.declared.bound.BoundProp.{BoundProp}
use Rattle.dscript_program.specs.declared.bound.BoundElement.{BoundElement}
use Rattle.dscript_program.specs.declared.bound.BoundHole.{BoundHole}
use Rattle.dscript_program.specs.declared.bound.BoundOperand.{BoundOperand}
use Rattle.dscript_program.specs.declared.bound.BoundStmt.{BoundStmt}
use Rattle.dscript_program.specs.declared.bound.BoundStmt.TheOpen.{BoundStmt-F}
use Rattle.dscript_program.specs.declared.bound.BoundStmt.TheOpen as stmt
use Rattle.dscript_program.specs.declared.bound.BoundStmt.TheFolds.{fold-BoundStmt}
use Rattle.dscript_program.specs.declared.bound.Body.{Body}
use Rattle.dscript_program.specs.declared.bound.Body.TheVariants as bodies
use Rattle.dscript_program.specs.declared.program.DeclKind.{DeclKind}
use Rattle.dscript_program.specs.declared.program.DeclKind.TheVariants as declared
use Rattle.dscript_program.specs.declared.program.Namespace.{Namespace}
use Rattle.dscript_program.specs.declared.program.Namespace.TheOpen.{Namespace-F}
use Rattle.dscript_program.specs.declared.program.Namespace.TheFolds.{fold-Namespace}
use Rattle.dscript_program.specs.declared.program.BoundDecl.{BoundDecl}
use Rattle.dscript_program.specs.declared.program.BoundFile.{BoundFile}
use Rattle.dscript_program.specs.declared.program.Function.{Function}
use Rattle.dscript_program.specs.declared.program.Program.{Program}

-- expressions: one step for each type of the cycle, from the data of the parts to the data of the whole
abbrev pub operand_step : BoundOperand-F ExprData PartData PropData ElementData HoleData OperandData
    → OperandData
operand_step x = tree.Operand x.operator x.value

abbrev pub element_step : BoundElement-F ExprData PartData PropData ElementData HoleData OperandData
    → ElementData
element_step x = tree.Element x.spread x.value

abbrev pub hole_step : BoundHole-F ExprData PartData PropData ElementData HoleData OperandData → HoleData
hole_step x = tree.Hole x.value x.text

abbrev pub part_step : BoundPart-F ExprData PartData PropData ElementData HoleData OperandData → PartData
part_step (expr.Member x) = tree.Member x
part_step (expr.Index e) = tree.Index e.value
part_step (expr.Call es) = tree.Call (to_exprs es.items)

abbrev pub prop_step : BoundProp-F ExprData PartData PropData ElementData HoleData OperandData → PropData
prop_step (expr.Named x e) = tree.Named x e
prop_step (expr.Quoted s e) = tree.Quoted s e
prop_step (expr.Short x target) = tree.Short x target
prop_step (expr.Spread e) = tree.Spread e

abbrev pub expr_step : BoundExpr-F ExprData PartData PropData ElementData HoleData OperandData → ExprData
expr_step (expr.Arrow f) = tree.Arrow f
expr_step (expr.Cond c a b) = tree.Cond c.value a.value b.value
expr_step (expr.Chain e more) = tree.Chain e.value (to_operands more.items)
expr_step (expr.Unary ops e) = tree.Unary ops.items e.value
expr_step (expr.Postfix e parts) = tree.Postfix e.value (to_parts parts.items)
expr_step (expr.Number n) = tree.Number n
expr_step (expr.Str s) = tree.Str s
expr_step expr.True = tree.True
expr_step expr.False = tree.False
expr_step expr.Undefined = tree.Undefined
expr_step (expr.Template text holes) = tree.Template text (to_holes holes.items)
expr_step (expr.Path kind text holes) = tree.Path kind text (to_holes holes.items)
expr_step (expr.Name target) = tree.Name target
expr_step (expr.List es) = tree.Elements (to_elements es.items)
expr_step (expr.Object ps) = tree.Object (to_props ps.items)

abbrev pub expr_data : BoundExpr → ExprData
expr_data =
    fold-BoundExpr ExprData PartData PropData ElementData HoleData OperandData
    expr_step part_step prop_step element_step hole_step operand_step

abbrev pub part_data : BoundPart → PartData
part_data =
    fold-BoundPart ExprData PartData PropData ElementData HoleData OperandData
    expr_step part_step prop_step element_step hole_step operand_step

abbrev pub prop_data : BoundProp → PropData
prop_data =
    fold-BoundProp ExprData PartData PropData ElementData HoleData OperandData
    expr_step part_step prop_step element_step hole_step operand_step

abbrev pub element_data : BoundElement → ElementData
element_data =
    fold-BoundElement ExprData PartData PropData ElementData HoleData OperandData
    expr_step part_step prop_step element_step hole_step operand_step

abbrev pub hole_data : BoundHole → HoleData
hole_data =
    fold-BoundHole ExprData PartData PropData ElementData HoleData OperandData
    expr_step part_step prop_step element_step hole_step operand_step

abbrev pub operand_data : BoundOperand → OperandData
operand_data =
    fold-BoundOperand ExprData PartData PropData ElementData HoleData OperandData
    expr_step part_step prop_step element_step hole_step operand_step

-- statements
abbrev pub stmt_step : BoundStmt-F StmtData → StmtData
stmt_step (stmt.Const n t e) = tree.Const n (note_tree t) (expr_data e)
stmt_step (stmt.Let n t e) = tree.Let n (note_tree t) (option_map expr_data e)
stmt_step (stmt.Assign n e) = tree.Assign n (expr_data e)
stmt_step (stmt.If c s other) = tree.If (expr_data c) s.value (to_stmt (option_map (λ b. b.value) other))
stmt_step (stmt.For kind n list s) = tree.For kind n (expr_data list) s.value
stmt_step (stmt.Return e) = tree.Return (option_map expr_data e)
stmt_step (stmt.Value e) = tree.Value (expr_data e)
stmt_step (stmt.Block ss) = tree.Block (to_stmts ss.items)
stmt_step stmt.Empty = tree.Empty

abbrev pub stmt_data : BoundStmt → StmtData
stmt_data = fold-BoundStmt StmtData stmt_step

abbrev pub body_data : Body → BodyData
body_data (bodies.Expr e) = tree.Expr (expr_data e)
body_data (bodies.Block ss) = tree.Stmts (map stmt_data ss.items)

-- declarations, files and programs
abbrev pub function_data : Function → FunctionData
function_data f = record {
  file = f.file;
  captured = f.captured.items;
  params = map param_tree f.params.items;
  first_local = f.first_local;
  local_count = f.local_count;
  body = body_data f.body;
}

abbrev pub kind_data : DeclKind → KindData
kind_data (declared.Const t e) = kinds.Const (note_tree t) (expr_data e)
kind_data (declared.Function ts t f) = kinds.Function ts.items (note_tree t) f
kind_data (declared.Interface ts es ms) =
    kinds.Interface ts.items (map type_tree es.items) (map member_tree ms.items)
kind_data (declared.TypeAlias ts t) = kinds.TypeAlias ts.items (type_tree t)

-- the dotted name of a namespace: those of the namespaces around it, and its own
abbrev pub outer_names : Option (Rc Dotted Global) → Dotted
outer_names None = []
outer_names (Some outer) = outer.value

abbrev pub namespace_step : Namespace-F Dotted → Dotted
namespace_step n = outer_names n.outer ++ n.names.items

abbrev pub namespace_names : Namespace → Dotted
namespace_names = fold-Namespace Dotted namespace_step

abbrev pub around_names : Option (Rc Namespace Global) → Dotted
around_names None = []
around_names (Some n) = namespace_names n.value

abbrev pub decl_data : BoundDecl → DeclData
decl_data d = record {
  name = around_names d.around ++ d.name ∷ [];
  mark = d.mark;
  kind = kind_data d.kind;
}

abbrev pub file_data : BoundFile → FileData
file_data f = record { path = f.path; module_number = f.module; decls = map decl_data f.decls.items }

abbrev pub program_data : Program → ProgramData
program_data p = record {
  files = map file_data p.files.items;
  functions = map function_data p.functions.items;
}
