-- Small programs of one file, for worked examples.
use Rattle.std.proofs.Common.{◌≡◌, ℕ, ◌-◌, pos, false, List, [], ◌∷◌, map, replicate, codes, None, Ok, Err}
use Rattle.bx_tree.specs.Paths.{Atoms}
use Rattle.dscript_program.specs.declared.ambient.Ambient.{Ambient}
use Rattle.dscript_ast.specs.ExprTree.{ParamTree}
use Rattle.dscript_ast.specs.declared.expr.PathKind.{PathKind}
use Rattle.dscript_ast.specs.declared.file.Mark.TheVariants.{Plain}
use Rattle.dscript_ast.specs.declared.operator.BinaryOp.{BinaryOp}
use Rattle.dscript_program.specs.BoundTree as tree
use Rattle.dscript_program.specs.BoundTree.{ExprData, BodyData, no_holes, to_elements, to_exprs, to_operands}
use Rattle.dscript_program.specs.BoundTree.{to_parts}
use Rattle.dscript_program.specs.ProgramData.{Const, Function, DeclData, FunctionData, ProgramData}
use Rattle.dscript_program.specs.declared.target.Target.TheVariants as targets
use Rattle.dscript_eval_meaning.specs.declared.fault.EvalKind.{EvalKind}
use Rattle.dscript_eval_meaning.specs.declared.fault.EvalKind.TheVariants as kinds
use Rattle.dscript_eval_meaning.specs.Meaning.{Refused, meaning}

-- ## Expressions

abbrev pub number : ℕ → ExprData
number n = tree.Number (pos n)

abbrev pub text : List ℕ → ExprData
text bytes = tree.Str bytes

abbrev pub literal : PathKind → List ℕ → ExprData
literal letter bytes = tree.Path letter bytes no_holes

abbrev pub local : ℕ → ExprData
local n = tree.Name (targets.Local n)

-- the declaration with this number
abbrev pub global : ℕ → ExprData
global n = tree.Name (targets.Declared 0 n)

abbrev pub ambient : Ambient → ExprData
ambient name = tree.Name (targets.Ambient name)

abbrev pub list : List ExprData → ExprData
list items = tree.Elements (to_elements (map (tree.Element false) items))

abbrev pub binary : ExprData → BinaryOp → ExprData → ExprData
binary a op b = tree.Chain a (to_operands (tree.Operand op b ∷ []))

abbrev pub call : ExprData → List ExprData → ExprData
call f args = tree.Postfix f (to_parts (tree.Call (to_exprs args) ∷ []))

abbrev pub call_member : ExprData → List ℕ → List ExprData → ExprData
call_member x name args = tree.Postfix x (to_parts (tree.Member name ∷ tree.Call (to_exprs args) ∷ []))

-- ## Programs

abbrev pub constant : ExprData → DeclData
constant e = record { name = codes "c" ∷ []; mark = Plain; kind = Const None e }

-- a declared function, by its number in the table
abbrev pub function : ℕ → DeclData
function number = record { name = codes "f" ∷ []; mark = Plain; kind = Function [] None number }

abbrev pub params : ℕ → List ParamTree
params n = replicate n (record { name = codes "a"; optional = false; type_node = None })

-- a function that captures nothing, with these numbers of parameters and of locals in all
abbrev pub body : ℕ → ℕ → BodyData → FunctionData
body arity locals b = record {
  file = 0;
  captured = [];
  params = params arity;
  first_local = 0;
  local_count = locals;
  body = b;
}

abbrev pub build : Atoms
build = codes "build.dsc" ∷ []

abbrev pub program : List DeclData → List FunctionData → ProgramData
program decls functions = record {
  files = record { path = build; module_number = 0; decls = decls } ∷ [];
  functions = functions;
}

-- one constant
abbrev pub only : ExprData → ProgramData
only e = program (constant e ∷ []) []

-- one constant beside a function
abbrev pub with_function : FunctionData → ExprData → ProgramData
with_function f e = program (constant e ∷ []) (f ∷ [])

-- ## What is said of them

abbrev pub Fails : ProgramData → EvalKind → Type 0
Fails p kind = meaning p [] 1000 ≡ Err (Refused kind build None)

-- The program takes exactly this number of steps, and makes no pips.
abbrev pub Takes : ProgramData → ℕ → Type 0
Takes p n = (meaning p [] n ≡ Ok []) × (meaning p [] (n - 1) ≡ Err (Refused kinds.Budget build None))
