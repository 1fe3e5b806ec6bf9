-- Worked examples, which pin down what names mean.
use Prim.Native.String.{String as Letters}
use Rattle.std.proofs.Common.{◌≡◌, ℕ, Bool, true, false, List, [], ◌∷◌, map, Some, None, Result, Ok, Err, codes, pos, refl}
use Rattle.dscript_program.specs.Ambient.{written_name}
use Rattle.dscript_program.specs.declared.ambient.Ambient.TheVariants as calls
use Rattle.dscript_program.specs.declared.ambient.Ambient.{Ambient}
use Rattle.dscript_ast.specs.ExprTree as tree
use Rattle.dscript_ast.specs.ExprTree.{ParamTree, ExprTree, StmtTree, to_exprs, to_parts, to_stmts, to_elements, to_props}
use Rattle.dscript_ast.specs.FileTree as file
use Rattle.dscript_ast.specs.FileTree.{MarkedTree, DeclTree, ItemTree, Marked, to_marked}
use Rattle.dscript_ast.specs.declared.expr.LoopKind.TheVariants as loops
use Rattle.dscript_ast.specs.declared.file.Mark.{Mark}
use Rattle.dscript_ast.specs.declared.file.Mark.TheVariants as marks
use Rattle.dscript_program.specs.BoundTree as bound
use Rattle.dscript_program.specs.BoundTree.{ExprData}
use Rattle.dscript_program.specs.ProgramData as declares
use Rattle.dscript_program.specs.ProgramData.{KindData, DeclData, FileData, FunctionData, ProgramData}
use Rattle.dscript_program.specs.declared.target.Target.TheVariants as targets
use Rattle.dscript_program.specs.Workspaces.{ModuleData}
use Rattle.dscript_program.specs.SpecFaults.{FaultData}
use Rattle.dscript_program.specs.declared.spec_fault.SpecKind.{SpecKind}
use Rattle.dscript_program.specs.declared.spec_fault.SpecKind.TheVariants as faults
use Rattle.dscript_names_scopes.specs.Declarations.{ParsedData, declared_by}
use Rattle.dscript_names_scopes.specs.Duplicates.{expr_repeats, marked_repeats}
use Rattle.dscript_names_scopes.specs.Lookup.{found_at, found_outside}
use Rattle.dscript_names_binding.specs.Binding.{bind_expr, bind_marked}
use Rattle.dscript_names.specs.Named.{named, fault_in_file}

-- ## Trees

abbrev x : ExprTree
x = tree.Name (codes "x")

abbrev name : Letters → ExprTree
name n = tree.Name (codes n)

abbrev one : ExprTree
one = tree.Number (pos 1)

-- a.b
abbrev dot : Letters → Letters → ExprTree
dot a b = tree.Postfix (name a) (to_parts (tree.Member (codes b) ∷ []))

-- const n = e;
abbrev value : Mark → Letters → ExprTree → ItemTree
value mark n e = file.Declared (Marked mark (file.Const (codes n) None e))

abbrev constant : Letters → ExprTree → ItemTree
constant = value marks.Plain

-- namespace n { const a = e; .. }
abbrev decls : List ItemTree → List MarkedTree
decls [] = []
decls (file.Declared m ∷ items) = m ∷ decls items
decls (_ ∷ items) = decls items

abbrev namespace_of : Letters → List ItemTree → ItemTree
namespace_of n items = file.Declared (Marked marks.Plain (file.Namespace (codes n
    ∷ []) (to_marked (decls items))))

-- ## Workspaces

abbrev file_a : List (List ℕ)
file_a = codes "a" ∷ codes "x.dsc" ∷ []

abbrev file_b : List (List ℕ)
file_b = codes "b" ∷ codes "x.dsc" ∷ []

abbrev module_of : Letters → List (List (List ℕ)) → ModuleData
module_of n files = record { name = codes n; config = []; files = files }

abbrev parsed : List (List ℕ) → List ItemTree → ParsedData
parsed path items = record { path = path; file = file.Project items }

-- a file of a module by itself
abbrev alone : List ItemTree → Result ProgramData FaultData
alone items = named (module_of "A" (file_a ∷ []) ∷ []) (parsed file_a items ∷ [])

-- two files of one module, and two modules of one file
abbrev together : List ItemTree → List ItemTree → Result ProgramData FaultData
together first second =
    named (module_of "A" (file_a ∷ file_b ∷ []) ∷ []) (parsed file_a first ∷ parsed file_b second ∷ [])

abbrev apart : List ItemTree → List ItemTree → Result ProgramData FaultData
apart first second =
    named (module_of "A" (file_a ∷ []) ∷ module_of "B" (file_b ∷ []) ∷ [])
    (parsed file_a first ∷ parsed file_b second ∷ [])

-- ## What programs have

abbrev value_of_kind : KindData → List ExprData → List ExprData
value_of_kind (declares.Const t e) es = e ∷ es
value_of_kind _ es = es

abbrev values_of : List DeclData → List ExprData
values_of [] = []
values_of (d ∷ ds) = value_of_kind d.kind (values_of ds)

-- the values of the constants of a program, file by file
abbrev constants : Result ProgramData FaultData → List (List ExprData)
constants (Ok p) = map (λ f. values_of f.decls) p.files
constants (Err fault) = []

-- the target with this file and declaration
abbrev decl : ℕ → ℕ → ExprData
decl f d = bound.Name (targets.Declared f d)

-- a.b.c
abbrev dot_two : Letters → Letters → Letters → ExprTree
dot_two a b c = tree.Postfix (name a) (to_parts (tree.Member (codes b) ∷ tree.Member (codes c) ∷ []))

-- importFrom("m").n
abbrev from_module : Letters → Letters → ExprTree
from_module m n =
    tree.Postfix (name "importFrom") (to_parts (tree.Call (to_exprs (tree.Str (codes m) ∷ []))
    ∷ tree.Member (codes n) ∷ []))

-- import * as n from "m";
abbrev import_all : Letters → Letters → ItemTree
import_all n m = file.ImportAll (codes n) (codes m)

-- import {n} from "m"; and import {n as a} from "m";
abbrev import_name : Letters → Letters → ItemTree
import_name n m = file.ImportNames (record { name = codes n; alias = None } ∷ []) (codes m)

abbrev import_as : Letters → Letters → Letters → ItemTree
import_as n a m = file.ImportNames (record { name = codes n; alias = Some (codes a) } ∷ []) (codes m)

abbrev param : Letters → ParamTree
param n = record { name = codes n; optional = false; type_node = None }

-- function f(p) { .. }
abbrev function_of : List StmtTree → ItemTree
function_of ss =
    file.Declared (Marked marks.Plain (file.Function (codes "f") [] (param "p" ∷ []) None ss))

-- const n = e; let n = e; n = e; e; and { .. }, as statements
abbrev const_stmt : Letters → ExprTree → StmtTree
const_stmt n e = tree.Const (codes n) None e

abbrev let_stmt : Letters → ExprTree → StmtTree
let_stmt n e = tree.Let (codes n) None (tree.an_expr e)

abbrev assign : Letters → ExprTree → StmtTree
assign n e = tree.Assign (codes n) e

abbrev block : List StmtTree → StmtTree
block ss = tree.Block (to_stmts ss)

-- () => { .. }
abbrev arrow : List StmtTree → ExprTree
arrow ss = tree.BlockArrow (tree.Params []) (to_stmts ss)

abbrev refused : SpecKind → List (List ℕ) → Result ProgramData FaultData
refused kind path = Err (fault_in_file kind path)

abbrev is_ok : Result ProgramData FaultData → Bool
is_ok (Ok p) = true
is_ok (Err fault) = false

-- the functions of a program
abbrev functions_of : Result ProgramData FaultData → List FunctionData
functions_of (Ok p) = p.functions
functions_of (Err fault) = []

abbrev call : Ambient → ExprData
call c = bound.Name (targets.Ambient c)

abbrev number_one : ExprData
number_one = bound.Number (pos 1)

-- ## Levels

-- a declaration may be named before it
declarations :
    constants (alone (constant "y" (name "x") ∷ constant "x" one ∷ []))
    ≡ ((decl 0 1 ∷ number_one ∷ []) ∷ [])
unfolding named found_at found_outside bind_expr bind_marked declared_by expr_repeats marked_repeats
declarations = refl

-- an inner namespace comes before an outer one
namespaces :
    constants (alone (constant "x" one ∷ namespace_of "N" (constant "x" one ∷ constant "y" (name "x")
    ∷ []) ∷ []))
    ≡ ((number_one ∷ number_one ∷ decl 0 1 ∷ []) ∷ [])
unfolding named found_at found_outside bind_expr bind_marked declared_by expr_repeats marked_repeats
namespaces = refl

-- namespace A.B.C { const x = 1; const y = C.x; }
middle_namespace :
    constants (alone (file.Declared (Marked marks.Plain (file.Namespace (codes "A" ∷ codes "B" ∷ codes "C" ∷ [])
    (to_marked (decls (constant "x" one ∷ constant "y" (dot "C" "x") ∷ []))))) ∷ []))
    ≡ ((number_one ∷ decl 0 0 ∷ []) ∷ [])
unfolding named found_at found_outside bind_expr bind_marked declared_by expr_repeats marked_repeats
middle_namespace = refl

-- a namespace alone does not end the search
namespace_alone :
    constants (alone (namespace_of "M" (constant "x" one ∷ []) ∷ namespace_of "N" (namespace_of "M" []
    ∷ constant "y" (dot "M" "x") ∷ []) ∷ []))
    ≡ ((number_one ∷ decl 0 0 ∷ []) ∷ [])
unfolding named found_at found_outside bind_expr bind_marked declared_by expr_repeats marked_repeats
namespace_alone = refl

-- the shortest prefix that is a value counts, and a namespace by itself is none
shortest_prefix :
    (constants (alone (constant "N" one ∷ namespace_of "N" (constant "x" one ∷ [])
    ∷ constant "y" (dot "N" "x") ∷ []))
    ≡ ((number_one ∷ number_one
    ∷ bound.Postfix (decl 0 0) (bound.more_parts (bound.Member (codes "x")) bound.no_parts) ∷ []) ∷ []))
    × (alone (namespace_of "N" (constant "x" one ∷ []) ∷ constant "y" (name "N") ∷ [])
    ≡ refused faults.UnknownName file_a)
unfolding named found_at found_outside bind_expr bind_marked declared_by expr_repeats marked_repeats written_name
shortest_prefix = (refl, refl)

-- a declaration comes before an import, and an import before the module, which it hides
imports :
    (constants (apart (value marks.Public "x" one ∷ []) (import_name "x" "A" ∷ constant "x" one
    ∷ constant "y" (name "x") ∷ []))
    ≡ ((number_one ∷ []) ∷ (number_one ∷ decl 1 0 ∷ []) ∷ []))
    × (together (import_all "N" "A" ∷ constant "y" (dot "N" "x")
    ∷ []) (file.Declared (Marked marks.Plain (file.Namespace (codes "N"
    ∷ []) (to_marked (Marked marks.Export (file.Const (codes "x") None one) ∷ [])))) ∷ [])
    ≡ refused faults.UnknownName file_a)
unfolding named found_at found_outside bind_expr bind_marked declared_by expr_repeats marked_repeats
imports = (refl, refl)

-- a module sees what its files export, by the whole dotted name
modules :
    (constants (together (constant "y" (name "x") ∷ []) (value marks.Export "x" one ∷ []))
    ≡ ((decl 1 0 ∷ []) ∷ (number_one ∷ []) ∷ []))
    × (together (constant "y" (name "x") ∷ []) (constant "x" one ∷ []) ≡ refused faults.UnknownName file_a)
unfolding named found_at found_outside bind_expr bind_marked declared_by expr_repeats marked_repeats written_name
modules = (refl, refl)

-- ambient names come last, with a name of a call alone
ambient :
    (constants (alone (constant "x" (dot "Cmd" "argument") ∷ [])) ≡ ((call calls.CmdArgument ∷ []) ∷ []))
    × (alone (constant "x" (dot "Cmd" "other") ∷ []) ≡ refused faults.UnknownName file_a)
    × (alone (constant "x" (name "Cmd") ∷ []) ≡ refused faults.UnknownName file_a)
    × (constants (alone (constant "glob" one ∷ constant "x" (name "glob") ∷ []))
    ≡ ((number_one ∷ decl 0 0 ∷ []) ∷ []))
unfolding named found_at found_outside bind_expr bind_marked declared_by expr_repeats marked_repeats written_name
ambient = (refl, refl, refl, refl)

-- ## Other modules

-- a value of another module is public, not public or not there
other_modules :
    (constants (apart (value marks.Public "x" one ∷ []) (constant "y" (from_module "A" "x") ∷ []))
    ≡ ((number_one ∷ []) ∷ (decl 0 0 ∷ []) ∷ []))
    × (apart (value marks.Export "x" one ∷ []) (constant "y" (from_module "A" "x") ∷ [])
    ≡ refused faults.NotPublic file_b)
    × (apart [] (constant "y" (from_module "A" "x") ∷ []) ≡ refused faults.UnknownName file_b)
    × (apart [] (constant "y" (from_module "C" "x") ∷ []) ≡ refused faults.UnknownModule file_b)
unfolding named found_at found_outside bind_expr bind_marked declared_by expr_repeats marked_repeats
other_modules = (refl, refl, refl, refl)

-- the shortest public prefix counts; without one a shorter prefix that is a value is not public
public_prefixes :
    (constants (apart (namespace_of "N" (constant "x" one ∷ []) ∷ file.Declared (Marked marks.Plain
    (file.Namespace (codes "N" ∷ codes "x" ∷ []) (to_marked (Marked marks.Public (file.Const (codes "y") None one)
    ∷ [])))) ∷ []) (import_all "A" "A" ∷ constant "z" (tree.Postfix (name "A") (to_parts (tree.Member (codes "N")
    ∷ tree.Member (codes "x") ∷ tree.Member (codes "y") ∷ []))) ∷ []))
    ≡ ((number_one ∷ number_one ∷ []) ∷ (decl 0 1 ∷ []) ∷ []))
    × (apart (constant "N" one ∷ []) (import_all "A" "A" ∷ constant "z" (dot_two "A" "N" "y") ∷ [])
    ≡ refused faults.NotPublic file_b)
unfolding named found_at found_outside bind_expr bind_marked declared_by expr_repeats marked_repeats
public_prefixes = (refl, refl)

-- `importFrom` in any other form is unknown, also where the module is
import_from :
    (alone (constant "x" (name "importFrom") ∷ []) ≡ refused faults.UnknownName file_a)
    × (alone (constant "x" (tree.Postfix (name "importFrom") (to_parts (tree.Call (to_exprs (tree.Str
    (codes "C") ∷ [])) ∷ []))) ∷ []) ≡ refused faults.UnknownName file_a)
    × (alone (constant "x" (tree.Postfix (name "importFrom") (to_parts (tree.Call (to_exprs (one ∷ []))
    ∷ tree.Member (codes "x") ∷ []))) ∷ []) ≡ refused faults.UnknownName file_a)
unfolding named found_at found_outside bind_expr bind_marked declared_by expr_repeats marked_repeats written_name
import_from = (refl, refl, refl)

-- a name in braces is checked, used or not; it may be a namespace, and gets the name after `as`
braces :
    (apart (value marks.Export "x" one ∷ []) (import_name "x" "A" ∷ []) ≡ refused faults.NotPublic file_b)
    × (apart [] (import_name "x" "A" ∷ []) ≡ refused faults.UnknownName file_b)
    × (is_ok (apart (namespace_of "x" [] ∷ []) (import_name "x" "A" ∷ [])) ≡ true)
    × (constants (apart (value marks.Public "x" one ∷ []) (import_as "x" "z" "A"
    ∷ constant "y" (name "z") ∷ [])) ≡ ((number_one ∷ []) ∷ (decl 0 0 ∷ []) ∷ []))
    × (apart (value marks.Public "x" one ∷ []) (import_as "x" "z" "A" ∷ constant "y" (name "x") ∷ [])
    ≡ refused faults.UnknownName file_b)
unfolding named found_at found_outside bind_expr bind_marked declared_by expr_repeats marked_repeats written_name
braces = (refl, refl, refl, refl, refl)

-- an import of no known module is refused, even one of no names
unknown_module :
    (alone (import_all "N" "C" ∷ []) ≡ refused faults.UnknownModule file_a)
    × (alone (file.ImportNames [] (codes "C") ∷ []) ≡ refused faults.UnknownModule file_a)
unfolding named found_at found_outside bind_expr bind_marked declared_by expr_repeats marked_repeats
unknown_module = (refl, refl)

-- `Sdk.Transformers` is always there, with three names
sdk :
    (constants (alone (import_name "Cmd" "Sdk.Transformers" ∷ constant "x" (dot "Cmd" "flag") ∷ []))
    ≡ ((call calls.CmdFlag ∷ []) ∷ []))
    × (constants (alone (import_all "S" "Sdk.Transformers" ∷ constant "x" (dot_two "S" "Cmd" "flag")
    ∷ [])) ≡ ((call calls.CmdFlag ∷ []) ∷ []))
    × (alone (import_name "Context" "Sdk.Transformers" ∷ []) ≡ refused faults.UnknownName file_a)
unfolding named found_at found_outside bind_expr bind_marked declared_by expr_repeats marked_repeats written_name
sdk = (refl, refl, refl)

-- ## Blocks

-- the innermost block that declares a name decides, and before its declaration the name is unknown
blocks :
    (is_ok (alone (function_of (const_stmt "a" one ∷ block (const_stmt "b" (name "a") ∷ []) ∷ []) ∷ []))
    ≡ true)
    × (alone (function_of (const_stmt "a" one ∷ block (const_stmt "b" (name "a") ∷ const_stmt "a" one
    ∷ []) ∷ []) ∷ []) ≡ refused faults.UnknownName file_a)
    × (alone (constant "a" one ∷ function_of (const_stmt "a" (name "a") ∷ []) ∷ [])
    ≡ refused faults.UnknownName file_a)
unfolding named found_at found_outside bind_expr bind_marked declared_by expr_repeats marked_repeats
blocks = (refl, refl, refl)

-- a declaration that is itself the statement of an `if` has a block of its own
own_block :
    (is_ok (alone (function_of (tree.If (name "p") (const_stmt "a" one) tree.no_stmt ∷ const_stmt "a" one ∷ [])
    ∷ [])) ≡ true)
    × (alone (function_of (tree.If (name "p") (const_stmt "a" one) tree.no_stmt ∷ tree.Value (name "a") ∷ [])
    ∷ []) ≡ refused faults.UnknownName file_a)
unfolding named found_at found_outside bind_expr bind_marked declared_by expr_repeats marked_repeats written_name
own_block = (refl, refl)

-- the list of a loop does not see its variable
loop_variables :
    (is_ok (alone (function_of (tree.For loops.Const (codes "p") (name "p") (tree.Value (name "p")) ∷ [])
    ∷ [])) ≡ true)
    × (alone (function_of (tree.For loops.Const (codes "a") (name "a") tree.Empty ∷ []) ∷ [])
    ≡ refused faults.UnknownName file_a)
unfolding named found_at found_outside bind_expr bind_marked declared_by expr_repeats marked_repeats written_name
loop_variables = (refl, refl)

-- an assignment is to a variable of the function body that it is in, and after its declaration
assignments :
    (is_ok (alone (function_of (let_stmt "a" one ∷ block (assign "a" one ∷ []) ∷ []) ∷ [])) ≡ true)
    × (is_ok (alone (function_of (tree.For loops.Let (codes "a") one (assign "a" one) ∷ []) ∷ [])) ≡ true)
    × (alone (function_of (assign "p" one ∷ []) ∷ []) ≡ refused faults.AssignCaptured file_a)
    × (alone (function_of (assign "q" (name "q") ∷ []) ∷ []) ≡ refused faults.AssignCaptured file_a)
    × (alone (function_of (let_stmt "a" one ∷ tree.Value (arrow (assign "a" one ∷ [])) ∷ []) ∷ [])
    ≡ refused faults.AssignCaptured file_a)
    × (alone (function_of (assign "a" one ∷ let_stmt "a" one ∷ []) ∷ [])
    ≡ refused faults.UnknownName file_a)
unfolding named found_at found_outside bind_expr bind_marked declared_by expr_repeats marked_repeats
assignments = (refl, refl, refl, refl, refl, refl)

-- ## Functions

-- local n, as it is named
abbrev local : ℕ → ExprData
local n = bound.Name (targets.Local n)

-- function f(p) { const a = 1; const g = (b) => [a, p, a, () => b]; const c = 1; }
-- The locals are p, a, g, b and c, from 0. An arrow function captures each local from outside once.
functions :
    functions_of (alone (function_of (
    const_stmt "a" one
    ∷ const_stmt "g" (tree.Arrow (tree.Single (codes "b")) (tree.Elements (to_elements (
    tree.Element false (name "a") ∷ tree.Element false (name "p") ∷ tree.Element false (name "a")
    ∷ tree.Element false (tree.Arrow (tree.Params []) (name "b")) ∷ []))))
    ∷ const_stmt "c" one ∷ []) ∷ []))
    ≡ record {
      file = 0;
      captured = [];
      params = param "p" ∷ [];
      first_local = 0;
      local_count = 5;
      body = bound.Stmts (
          bound.Const 1 None number_one ∷ bound.Const 2 None (bound.Arrow 1)
          ∷ bound.Const 4 None number_one ∷ []);
    }
    ∷ record {
      file = 0;
      captured = 1 ∷ 0 ∷ [];
      params = param "b" ∷ [];
      first_local = 3;
      local_count = 1;
      body = bound.Expr (bound.Elements (
          bound.more_elements (bound.Element false (local 1)) (bound.more_elements (bound.Element false
          (local 0))
          (bound.more_elements (bound.Element false (local 1))
          (bound.more_elements (bound.Element false (bound.Arrow 2)) bound.no_elements)))));
    }
    ∷ record {
      file = 0;
      captured = 3 ∷ [];
      params = [];
      first_local = 4;
      local_count = 0;
      body = bound.Expr (local 3);
    }
    ∷ []
unfolding named found_at found_outside bind_expr bind_marked declared_by expr_repeats marked_repeats
functions = refl

abbrev captured_of : List FunctionData → List (List ℕ)
captured_of fs = map (λ f. f.captured) fs

-- what an inner function captures from outside is named in the outer one too
inner_captures :
    captured_of (functions_of (alone (function_of (const_stmt "g" (tree.Arrow (tree.Single (codes "b"))
    (tree.Arrow (tree.Params []) (name "p"))) ∷ []) ∷ [])))
    ≡ ([] ∷ (0 ∷ []) ∷ (0 ∷ []) ∷ [])
unfolding named found_at found_outside bind_expr bind_marked declared_by expr_repeats marked_repeats
inner_captures = refl

-- a short property captures its local too
captured_property :
    captured_of (functions_of (alone (function_of (const_stmt "g" (tree.Arrow (tree.Params [])
    (tree.Object (to_props (tree.Short (codes "p") ∷ [])))) ∷ []) ∷ [])))
    ≡ ([] ∷ (0 ∷ []) ∷ [])
unfolding named found_at found_outside bind_expr bind_marked declared_by expr_repeats marked_repeats
captured_property = refl

-- functions are numbered over the files
function_numbers :
    constants (together (constant "x" (arrow []) ∷ []) (constant "y" (arrow []) ∷ []))
    ≡ ((bound.Arrow 0 ∷ []) ∷ (bound.Arrow 1 ∷ []) ∷ [])
unfolding named found_at found_outside bind_expr bind_marked declared_by expr_repeats marked_repeats
function_numbers = refl

-- ## Duplicates, and the order of faults

-- twice in a file, in a module, in a block, among imports
duplicates :
    (alone (constant "x" one ∷ constant "x" one ∷ []) ≡ refused faults.DuplicateName file_a)
    × (together (value marks.Export "x" one ∷ []) (value marks.Public "x" one ∷ [])
    ≡ refused faults.DuplicateName file_b)
    × (alone (function_of (const_stmt "p" one ∷ []) ∷ []) ≡ refused faults.DuplicateName file_a)
    × (alone (constant "x" (tree.BlockArrow (tree.Single (codes "p")) (to_stmts (const_stmt "p" one ∷ []))) ∷ [])
    ≡ refused faults.DuplicateName file_a)
    × (alone (import_all "x" "C" ∷ import_name "x" "D" ∷ []) ≡ refused faults.DuplicateName file_a)
    × (alone (constant "x" one ∷ file.Declared (Marked marks.Plain (file.Interface (codes "x") [] [] []))
    ∷ []) ≡ refused faults.DuplicateName file_a)
unfolding named found_at found_outside bind_expr bind_marked declared_by expr_repeats marked_repeats
duplicates = (refl, refl, refl, refl, refl, refl)

-- none is a private value beside another file's, an inner block's name, a namespace or an import
no_duplicates :
    (is_ok (together (value marks.Export "x" one ∷ []) (constant "x" one ∷ [])) ≡ true)
    × (is_ok (apart (value marks.Export "x" one ∷ []) (value marks.Export "x" one ∷ [])) ≡ true)
    × (is_ok (alone (function_of (block (const_stmt "p" one ∷ []) ∷ []) ∷ [])) ≡ true)
    × (is_ok (alone (constant "x" one ∷ namespace_of "x" [] ∷ import_all "x" "A" ∷ [])) ≡ true)
unfolding named found_at found_outside bind_expr bind_marked declared_by expr_repeats marked_repeats
no_duplicates = (refl, refl, refl, refl)

-- duplicates of all files come first, and then the other faults, by file and by place
order :
    (together (constant "x" (name "q") ∷ []) (constant "x" one ∷ constant "x" one ∷ [])
    ≡ refused faults.DuplicateName file_b)
    × (together (constant "x" (name "q") ∷ []) (import_all "N" "C" ∷ [])
    ≡ refused faults.UnknownName file_a)
    × (alone (import_all "N" "C" ∷ constant "x" (name "q") ∷ []) ≡ refused faults.UnknownModule file_a)
    × (alone (constant "x" (name "q") ∷ import_all "N" "C" ∷ []) ≡ refused faults.UnknownName file_a)
unfolding named found_at found_outside bind_expr bind_marked declared_by expr_repeats marked_repeats written_name
order = (refl, refl, refl, refl)
