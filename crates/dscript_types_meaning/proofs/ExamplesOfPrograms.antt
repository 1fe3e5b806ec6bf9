-- Worked examples of programs of one file.
use Rattle.std.proofs.Common.{◌≡◌, ℕ, Bool, true, false, List, [], ◌∷◌, codes, pos, None, Some, Option, refl}
use Rattle.dscript_ast.specs.ExprTree.{ParamTree}
use Rattle.dscript_ast.specs.TypeTree as types
use Rattle.dscript_ast.specs.TypeTree.{TypeTree}
use Rattle.dscript_ast.specs.declared.file.Mark.TheVariants.{Plain}
use Rattle.dscript_ast.specs.declared.operator.BinaryOp.{BinaryOp}
use Rattle.dscript_ast.specs.declared.operator.BinaryOp.TheVariants as binary
use Rattle.dscript_program.specs.BoundTree as tree
use Rattle.dscript_program.specs.BoundTree.{ExprData, BodyData, StmtData, to_exprs, to_operands, to_parts}
use Rattle.dscript_program.specs.BoundTree.{to_elements}
use Rattle.dscript_program.specs.ProgramData as declared
use Rattle.dscript_program.specs.ProgramData.{DeclData, FunctionData, ProgramData}
use Rattle.dscript_program.specs.declared.target.Target.TheVariants as targets
use Rattle.dscript_sdk_members.specs.ListMembers.{is_callback}
use Rattle.dscript_sdk_members.specs.Names.{member_named, written_name}
use Rattle.dscript_types_meaning.specs.Sizes.{type_nodes, member_nodes, members_nodes}
use Rattle.dscript_types_meaning.specs.Codes.{member_cmp, type_code, member_code, members_code, fields_code}
use Rattle.dscript_types_meaning.specs.Unions.{union_of}
use Rattle.dscript_types_meaning.specs.Fits.{all_fit, fields_fit, fits, member_fits}
use Rattle.dscript_types_meaning.specs.Lookups.{found_type}
use Rattle.dscript_types_meaning.specs.Annotations.{meant, all_meant}
use Rattle.dscript_types_meaning.specs.Narrowing.{narrowed, told}
use Rattle.dscript_types_meaning.specs.Operators.{operated}
use Rattle.dscript_types_meaning.specs.Functions.{callback_answer, callback_type, function_type}
use Rattle.dscript_types_meaning.specs.Expressions.{subject, operands, after, arguments, further_arguments, items}
use Rattle.dscript_types_meaning.specs.Expressions.{named, subject_call}
use Rattle.dscript_types_meaning.specs.Bodies.{use_type, after_stmt, stmt_uses, stmts_uses, body_uses}
use Rattle.dscript_types_meaning.specs.Bodies.{passes, all_pass, returns_nothing}
use Rattle.dscript_types_meaning.specs.Bodies.{some_return_nothing, inferred}
use Rattle.dscript_types_meaning.specs.Typed.{file_has_types, known_within, has_type, is_typed_file}

-- ## Expressions

abbrev number : ℕ → ExprData
number n = tree.Number (pos n)

abbrev text : ExprData
text = tree.Str (codes "s")

abbrev local : ℕ → ExprData
local n = tree.Name (targets.Local n)

-- the declaration with this number
abbrev global : ℕ → ExprData
global n = tree.Name (targets.Declared 0 n)

abbrev list : List ExprData → ExprData
list es = tree.Elements (to_elements (each es))
  where
    each : List ExprData → List tree.ElementData
    each [] = []
    each (e ∷ more) = tree.Element false e ∷ each more

abbrev chain : ExprData → BinaryOp → ExprData → ExprData
chain a op b = tree.Chain a (to_operands (tree.Operand op b ∷ []))

abbrev call : ExprData → List ExprData → ExprData
call f args = tree.Postfix f (to_parts (tree.Call (to_exprs args) ∷ []))

abbrev call_member : ExprData → List ℕ → List ExprData → ExprData
call_member x name args = tree.Postfix x (to_parts (tree.Member name ∷ tree.Call (to_exprs args) ∷ []))

-- ## Programs

abbrev constant : Option TypeTree → ExprData → DeclData
constant annotation e = record { name = codes "c" ∷ []; mark = Plain; kind = declared.Const annotation e }

-- a declared function, by its number in the table
abbrev function : ℕ → DeclData
function n = record { name = codes "f" ∷ []; mark = Plain; kind = declared.Function [] None n }

abbrev parameter : Bool → Option TypeTree → ParamTree
parameter optional annotation = record { name = codes "a"; optional = optional; type_node = annotation }

abbrev body : List ParamTree → BodyData → FunctionData
body params b = record {
  file = 0;
  captured = [];
  params = params;
  first_local = 0;
  local_count = 2;
  body = b;
}

abbrev alone : List DeclData → List FunctionData → ProgramData
alone decls functions = record {
  files = record { path = codes "build.dsc" ∷ []; module_number = 0; decls = decls } ∷ [];
  functions = functions;
}

abbrev number_node : TypeTree
number_node = types.Named (codes "number" ∷ []) types.no_types

-- a function without parameters and annotation
abbrev with_body : List StmtData → ProgramData
with_body ss = alone (function 0 ∷ []) (body [] (tree.Stmts ss) ∷ [])

-- `function f(a?: number) { return e; }`
abbrev with_maybe : ExprData → ProgramData
with_maybe e =
    alone (function 0 ∷ []) (body (parameter true (Some number_node) ∷ []) (tree.Stmts (tree.Return (Some e) ∷ [])) ∷ [])

-- a function with a variable, which the arrow captures that it returns a list by; the arrow begins with this
abbrev around_variable : StmtData → ProgramData
around_variable s =
    alone (function 0 ∷ [])
    (body [] (tree.Stmts (tree.Let 0 None (Some text)
    ∷ tree.Return (Some (call_member (list (number 1 ∷ [])) (codes "map") (tree.Arrow 1 ∷ []))) ∷ []))
    ∷ record (body (parameter false None ∷ []) (tree.Stmts (s ∷ tree.Return (Some (local 1)) ∷ []))) {
      captured = 0 ∷ [];
      first_local = 1;
      local_count = 1;
    } ∷ [])

-- `const c = 1 + true;`
one_bad : is_typed_file (alone (constant None (chain (number 1) binary.Add tree.True) ∷ []) []) 0 ≡ false
unfolding known_within has_type use_type subject operands operated
one_bad = refl

-- `function f() { const y = f(); return 1; }`, and with `return y;`
needs_itself
    : (is_typed_file (with_body (tree.Const 0 None (call (global 0) []) ∷ tree.Return (Some (number 1)) ∷ [])) 0 ≡ true)
    × (is_typed_file (with_body (tree.Const 0 None (call (global 0) []) ∷ tree.Return (Some (local 0)) ∷ [])) 0 ≡ false)
unfolding known_within has_type use_type subject operands after arguments named subject_call function_type
    body_uses stmts_uses stmt_uses after_stmt inferred passes all_pass some_return_nothing returns_nothing
    union_of member_cmp member_code type_code members_code fields_code type_nodes members_nodes member_nodes
needs_itself = (refl, refl)

-- `const c = [1].map(x => x + "s");`, and `const c = x => x;`
arrows
    : (is_typed_file (alone (constant None (call_member (list (number 1 ∷ [])) (codes "map") (tree.Arrow 0 ∷ [])) ∷ [])
    (body (parameter false None ∷ []) (tree.Expr (chain (local 0) binary.Add text)) ∷ [])) 0 ≡ true)
    × (is_typed_file (alone (constant None (tree.Arrow 0) ∷ [])
    (body (parameter false None ∷ []) (tree.Expr (local 0)) ∷ [])) 0 ≡ false)
unfolding known_within has_type use_type subject operands operated after items arguments further_arguments named
    subject_call is_callback callback_type callback_answer member_named written_name body_uses inferred union_of
    member_cmp member_code type_code members_code fields_code type_nodes members_nodes member_nodes
arrows = (refl, refl)

-- A variable of a function around an arrow is not assigned in the arrow, where no text assigns it: it may be read
-- there. `function f() { let v = "s"; return [1].map(x => { v; return x; }); }`, and with `v = "t";`
captured
    : (is_typed_file (around_variable (tree.Value (local 0))) 0 ≡ true)
    × (is_typed_file (around_variable (tree.Assign 0 text)) 0 ≡ false)
unfolding known_within has_type use_type subject operands operated after items arguments further_arguments named
    subject_call is_callback callback_type callback_answer member_named written_name body_uses stmts_uses stmt_uses
    after_stmt inferred passes all_pass returns_nothing some_return_nothing fits all_fit member_fits fields_fit
    union_of member_cmp member_code type_code members_code fields_code type_nodes members_nodes member_nodes
captured = (refl, refl)

-- `function f(a?: number) { return a ? a - 1 : 1; }`, and `return a - 1;`
narrows
    : (is_typed_file (alone (function 0 ∷ []) (body (parameter true (Some number_node) ∷ [])
    (tree.Stmts (tree.Return (Some (tree.Cond (local 0) (chain (local 0) binary.Subtract (number 1)) (number 1))) ∷ [])) ∷ [])) 0 ≡ true)
    × (is_typed_file (alone (function 0 ∷ []) (body (parameter true (Some number_node) ∷ [])
    (tree.Stmts (tree.Return (Some (chain (local 0) binary.Subtract (number 1))) ∷ [])) ∷ [])) 0 ≡ false)
unfolding known_within has_type use_type subject operands operated named narrowed told meant all_meant found_type
    body_uses stmts_uses stmt_uses after_stmt fits all_fit member_fits fields_fit union_of member_cmp member_code
    type_code members_code fields_code type_nodes members_nodes member_nodes
narrows = (refl, refl)

-- `return a && a && a - 1;`. In a chain of two operators, which no text has, an operand stands under nothing: in
-- `a && true || a - 1` the last one is evaluated where `a` is undefined.
chains
    : (is_typed_file (with_maybe (tree.Chain (local 0) (to_operands (tree.Operand binary.And (local 0)
    ∷ tree.Operand binary.And (chain (local 0) binary.Subtract (number 1)) ∷ [])))) 0 ≡ true)
    × (is_typed_file (with_maybe (tree.Chain (local 0) (to_operands (tree.Operand binary.And tree.True
    ∷ tree.Operand binary.Or (chain (local 0) binary.Subtract (number 1)) ∷ [])))) 0 ≡ false)
unfolding known_within has_type use_type subject operands operated named narrowed told meant all_meant found_type
    body_uses stmts_uses stmt_uses after_stmt fits all_fit member_fits fields_fit union_of member_cmp member_code
    type_code members_code fields_code type_nodes members_nodes member_nodes
chains = (refl, refl)

-- `function f(a?: number) { return a === undefined || a - 1; }`, and with `!==`
alternatives
    : (is_typed_file (with_maybe (tree.Chain (chain (local 0) binary.Equal tree.Undefined) (to_operands (tree.Operand
    binary.Or (chain (local 0) binary.Subtract (number 1)) ∷ [])))) 0 ≡ true)
    × (is_typed_file (with_maybe (tree.Chain (chain (local 0) binary.NotEqual tree.Undefined) (to_operands (tree.Operand
    binary.Or (chain (local 0) binary.Subtract (number 1)) ∷ [])))) 0 ≡ false)
unfolding known_within has_type use_type subject operands operated named narrowed told meant all_meant found_type
    body_uses stmts_uses stmt_uses after_stmt fits all_fit member_fits fields_fit union_of member_cmp member_code
    type_code members_code fields_code type_nodes members_nodes member_nodes
alternatives = (refl, refl)

-- `const c = [1].map(x => [1].map(y => { .. })); function f() { return c; }`
abbrev around_arrows : List StmtData → ProgramData
around_arrows ss =
    alone (constant None (call_member (list (number 1 ∷ [])) (codes "map") (tree.Arrow 0 ∷ [])) ∷ function 2 ∷ [])
    (body (parameter false None ∷ []) (tree.Expr (call_member (list (number 1 ∷ [])) (codes "map") (tree.Arrow 1 ∷ [])))
    ∷ record (body (parameter false None ∷ []) (tree.Stmts ss)) { first_local = 1; local_count = 1 }
    ∷ body [] (tree.Stmts (tree.Return (Some (global 0)) ∷ [])) ∷ [])

-- What a function answers may hang on the arrows in whose bodies it is called, so that more is looked into than there
-- are functions and declarations: with `f(); return y;`, and with `return f();`
looks_back
    : (is_typed_file (around_arrows (tree.Value (call (global 1) []) ∷ tree.Return (Some (local 1)) ∷ [])) 0 ≡ true)
    × (file_has_types (around_arrows (tree.Value (call (global 1) []) ∷ tree.Return (Some (local 1)) ∷ [])) 5 0 ≡ false)
    × (is_typed_file (around_arrows (tree.Return (Some (call (global 1) [])) ∷ [])) 0 ≡ false)
unfolding known_within has_type use_type subject operands operated after items arguments further_arguments named
    subject_call is_callback callback_type callback_answer function_type member_named written_name body_uses stmts_uses
    stmt_uses after_stmt inferred passes all_pass returns_nothing some_return_nothing union_of member_cmp member_code
    type_code members_code fields_code type_nodes members_nodes member_nodes
looks_back = (refl, refl, refl)
