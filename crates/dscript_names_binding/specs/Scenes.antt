-- Scenes as the meaning of names has them.
use Rattle.dscript_ast.specs.ExprTree.{ExprTree, MaybeExpr, OperandTrees, PartTrees, StmtTree, StmtTrees}
use Rattle.dscript_ast.specs.TypeTree.{TypeTree}
use Rattle.dscript_ast.specs.declared.expr.LoopKind.{LoopKind}
use Rattle.std.specs.Prelude.{map, Option}
use Rattle.std.specs.Option.{option_map}
use Rattle.std.specs.declared.alloc.Global.{Global}
use Rattle.std.specs.declared.boxed.Box.{Box}
use Rattle.std.specs.declared.vec.Vec.{Vec}
use Rattle.dscript_program.specs.BoundTree as bound
use Rattle.dscript_program.specs.BoundTree.{BodyData, OperandData, PartData, ElementData, PropData, HoleData}
use Rattle.dscript_program.specs.BoundTree.{StmtData, MaybeStmt as MaybeBound, to_stmt}
use Rattle.dscript_program.specs.Views.{element_data, expr_data, hole_data, operand_data, part_data}
use Rattle.dscript_program.specs.Views.{prop_data, stmt_data}
use Rattle.dscript_program.specs.declared.bound.BoundElement.{BoundElement}
use Rattle.dscript_program.specs.declared.bound.BoundExpr.{BoundExpr}
use Rattle.dscript_program.specs.declared.bound.BoundHole.{BoundHole}
use Rattle.dscript_program.specs.declared.bound.BoundOperand.{BoundOperand}
use Rattle.dscript_program.specs.declared.bound.BoundPart.{BoundPart}
use Rattle.dscript_program.specs.declared.bound.BoundProp.{BoundProp}
use Rattle.dscript_program.specs.declared.bound.BoundStmt.{BoundStmt}
use Rattle.dscript_program.specs.BoundTree.{ExprData, to_operands}
use Rattle.std.specs.Prelude.{ℕ, List, drop}
use Rattle.dscript_names_scopes.specs.Blocks.{stmt_locals}
use Rattle.dscript_names_scopes.specs.Lookup.{Site}
use Rattle.dscript_names_scopes.specs.Names.{World}
use Rattle.dscript_names_scopes.specs.Spaces.{site_data}
use Rattle.dscript_names_binding.specs.Binding.{bind_expr, bind_maybe, bind_name, bind_operands, bind_parts}
use Rattle.dscript_names_binding.specs.Binding.{bind_stmt, bind_stmts, loop_local, with_parts}
use Rattle.dscript_names_binding.specs.Walk.{Binds, ◌>>=◌, declare, gives, in_turn, within}
use Rattle.dscript_names_binding.specs.declared.scene.Scene.{Scene}

abbrev pub world_at : Scene → World
world_at s = s.world.now

abbrev pub site_at : Scene → Site
site_at s = site_data s.site

-- a chain, after its first operand
abbrev pub chain_after : World → Site → ExprData → OperandTrees → Binds ExprData
chain_after world site e more = in_turn (bind_operands world site more) >>= λ xs.
    gives (bound.Chain e (to_operands xs))

-- an expression that is no name, with the parts after it
abbrev pub parts_after : World → Site → ExprData → PartTrees → Binds ExprData
parts_after world site e parts = in_turn (bind_parts world site parts) >>= λ ps. gives (with_parts e ps)

-- a name, with the parts after it
abbrev pub dotted_parts : World → Site → List ℕ → PartTrees → Binds ExprData
dotted_parts world site x parts = bind_name world site x parts >>= λ f.
    in_turn (drop f.parts (bind_parts world site parts)) >>= λ ps. gives (with_parts (bound.Name f.target) ps)

-- ## Boxes and lists of bound trees

abbrev pub boxed_data : Box BoundExpr Global → ExprData
boxed_data b = expr_data b.value

abbrev pub exprs_data : Vec BoundExpr Global → List ExprData
exprs_data v = map expr_data v.items

abbrev pub operands_data : Vec BoundOperand Global → List OperandData
operands_data v = map operand_data v.items

abbrev pub elements_data : Vec BoundElement Global → List ElementData
elements_data v = map element_data v.items

abbrev pub props_data : Vec BoundProp Global → List PropData
props_data v = map prop_data v.items

abbrev pub holes_data : Vec BoundHole Global → List HoleData
holes_data v = map hole_data v.items

abbrev pub parts_data : Vec BoundPart Global → List PartData
parts_data v = map part_data v.items

abbrev pub stmts_data : Vec BoundStmt Global → List StmtData
stmts_data v = map stmt_data v.items

abbrev pub boxed_stmt : Box BoundStmt Global → StmtData
boxed_stmt b = stmt_data b.value

abbrev pub else_data : Option (Box BoundStmt Global) → MaybeBound
else_data o = to_stmt (option_map (λ b. stmt_data b.value) o)

abbrev pub maybe_data : Option BoundExpr → Option ExprData
maybe_data o = option_map expr_data o

-- ## Bodies of functions

abbrev pub expr_body : World → Site → ExprTree → Binds BodyData
expr_body world site e = bind_expr world site e >>= λ b. gives (bound.Expr b)

abbrev pub stmts_body : World → Site → StmtTrees → Binds BodyData
stmts_body world site ss = in_turn (bind_stmts world site ss) >>= λ bs. gives (bound.Stmts bs)

-- ## After the number of a local

abbrev pub const_known : List ℕ → Option TypeTree → ℕ → ExprData → Binds StmtData
const_known x t n b = declare x n >>= λ m. gives (bound.Const n t b)

abbrev pub const_after : World → Site → List ℕ → Option TypeTree → ExprTree → ℕ → Binds StmtData
const_after world site x t e n = bind_expr world site e >>= const_known x t n

abbrev pub let_known : List ℕ → Option TypeTree → ℕ → Option ExprData → Binds StmtData
let_known x t n b = declare x n >>= λ m. gives (bound.Let n t b)

abbrev pub let_after : World → Site → List ℕ → Option TypeTree → MaybeExpr → ℕ → Binds StmtData
let_after world site x t e n = bind_maybe world site e >>= let_known x t n

abbrev pub for_after : World → Site → LoopKind → List ℕ → ExprTree → StmtTree → ℕ → Binds StmtData
for_after world site kind x list s n =
    bind_expr world site list >>= λ l.
    within (loop_local kind x n) (within (stmt_locals s) (bind_stmt world site s)) >>= λ b.
    gives (bound.For kind n l b)
