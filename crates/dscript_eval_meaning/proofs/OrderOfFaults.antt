-- Which fault of a program is the first.
use Rattle.std.proofs.Common.{◌≡◌, ℕ, [], ◌∷◌, codes, false, true, Ok, refl}
use Rattle.dscript_ast.specs.declared.expr.PathKind.TheVariants as letters
use Rattle.dscript_ast.specs.declared.operator.BinaryOp.TheVariants.{Add, Equal, Subtract}
use Rattle.dscript_ast.specs.declared.operator.UnaryOp.TheVariants.{Negate}
use Rattle.dscript_program.specs.BoundTree as tree
use Rattle.dscript_program.specs.BoundTree.{ExprData, to_elements, to_holes, to_parts}
use Rattle.dscript_program.specs.ProgramData.{ProgramData}
use Rattle.dscript_eval_operators.specs.CallbackArguments.{callback_in}
use Rattle.dscript_eval_operators.specs.Equalities.{is_equal}
use Rattle.dscript_eval_operators.specs.Indexing.{indexed}
use Rattle.dscript_eval_operators.specs.Numbers.{difference_of, negative_of}
use Rattle.dscript_eval_operators.specs.Operators.{is_settled, operated, prefixed}
use Rattle.dscript_eval_operators.specs.PathLiterals.{first_hole, path_literal}
use Rattle.dscript_eval_operators.specs.Spreads.{with_items_of}
use Rattle.dscript_eval_operators.specs.Sums.{sum_of}
use Rattle.dscript_eval_operators.specs.Texts.{literal_hole, template_hole}
use Rattle.dscript_eval_operators.specs.Truth.{is_true}
use Rattle.dscript_sdk_members.specs.ListMembers.{is_callback}
use Rattle.dscript_sdk_members.specs.Names.{member_named, written_name}
use Rattle.dscript_sdk_members.specs.TextMembers.{text_function, text_property}
use Rattle.dscript_sdk.specs.Members.{is_callback_named, is_function_named, member_of}
use Rattle.dscript_eval_meaning.specs.declared.fault.EvalKind.TheVariants.{BadPath, Cycle, Depth, Kind, Missing}
use Rattle.dscript_eval_meaning.specs.declared.fault.EvalKind.TheVariants.{Range}
use Rattle.dscript_eval_meaning.specs.Callbacks.{callbacks}
use Rattle.dscript_eval_meaning.specs.Calls.{applied, member, subject_call, method}
use Rattle.dscript_eval_meaning.specs.Constants.{constant as a_constant}
use Rattle.dscript_eval_meaning.specs.Expressions.{named, value}
use Rattle.dscript_eval_meaning.specs.Meaning.{acts, evaluated, meaning}
use Rattle.dscript_eval_meaning.specs.Statements.{body_value}
use Rattle.dscript_eval_meaning.proofs.Samples.{Fails, binary, body, call, call_member, constant, function, global}
use Rattle.dscript_eval_meaning.proofs.Samples.{list}
use Rattle.dscript_eval_meaning.proofs.Samples.{literal, local, number, only, program, text}

-- `2147483647 + 1`
abbrev too_great : ExprData
too_great = binary (number 2147483647) Add (number 1)

sum_too_great : Fails (only too_great) Range
unfolding meaning evaluated acts a_constant value operated is_settled sum_of
sum_too_great = refl

-- `-1 - 2147483647` is the least number, which has no negative
least_number : meaning (only (binary (tree.Unary (Negate ∷ []) (number 1)) Subtract (number 2147483647)))
    [] 9 ≡ Ok []
unfolding meaning evaluated acts a_constant value operated is_settled prefixed difference_of negative_of
least_number = refl

-- `"a".b(2147483647 + 1)`: a member that is missing comes before the arguments
missing_member : Fails (only (call_member (text (codes "a")) (codes "b") (too_great ∷ []))) Missing
unfolding meaning evaluated acts a_constant value subject_call member member_of is_function_named
    member_named written_name
missing_member = refl

-- `undefined.b(2147483647 + 1)`
member_of_undefined : Fails (only (call_member tree.Undefined (codes "b") (too_great ∷ []))) Kind
unfolding meaning evaluated acts a_constant value subject_call member member_of is_function_named
    member_named written_name
member_of_undefined = refl

-- `1(2147483647 + 1)`: that the value is no function comes after the arguments
no_function : Fails (only (call (number 1) (too_great ∷ []))) Range
unfolding meaning evaluated acts a_constant value applied operated is_settled sum_of subject_call
no_function = refl

-- `"a".length(2147483647 + 1)`
no_member_function : Fails (only (call_member (text (codes "a")) (codes "length") (too_great ∷ []))) Range
unfolding meaning evaluated acts a_constant value subject_call member member_of is_function_named
    member_named written_name text_function text_property applied operated is_settled sum_of
no_member_function = refl

-- `undefined[2147483647 + 1]`: the index comes first
index_first : Fails (only (tree.Postfix tree.Undefined (to_parts (tree.Index too_great ∷ [])))) Range
unfolding meaning evaluated acts a_constant value operated is_settled sum_of
index_first = refl

-- `[1][1]`
index_out_of_range : Fails (only (tree.Postfix (list (number 1 ∷ []))
    (to_parts (tree.Index (number 1) ∷ [])))) Range
unfolding meaning evaluated acts a_constant value indexed
index_out_of_range = refl

-- `[...1, 2147483647 + 1]`: a spread is looked at before the next element
spread_first : Fails (only (tree.Elements (to_elements (tree.Element true (number 1)
    ∷ tree.Element false too_great ∷ [])))) Kind
unfolding meaning evaluated acts a_constant value with_items_of
spread_first = refl

-- `${[]}${2147483647 + 1}` in a template: a hole is looked at before the next
hole_first : Fails (only (tree.Template [] (to_holes (tree.Hole (list []) []
    ∷ tree.Hole too_great [] ∷ [])))) Kind
unfolding meaning evaluated acts a_constant value template_hole literal_hole
hole_first = refl

-- p`/${[]}`: the kinds of all holes come before the path
kind_before_path : Fails (only (tree.Path letters.Path (codes "/")
    (to_holes (tree.Hole (list []) [] ∷ [])))) Kind
unfolding meaning evaluated acts a_constant value literal_hole first_hole
kind_before_path = refl

-- p`/a`
leading_slash : Fails (only (literal letters.Path (codes "/a"))) BadPath
unfolding meaning evaluated acts a_constant value path_literal
leading_slash = refl

-- p`${d`a`}b`
no_slash_after_base
    : Fails
    (only (tree.Path letters.Path []
    (to_holes (tree.Hole (literal letters.Directory (codes "a")) (codes "b") ∷ []))))
    BadPath
unfolding meaning evaluated acts a_constant value path_literal first_hole
no_slash_after_base = refl

-- p`a/..` is the root
root_path : Fails (only (literal letters.Path (codes "a/.."))) BadPath
unfolding meaning evaluated acts a_constant value path_literal
root_path = refl

-- `[] === []`
equal_lists : Fails (only (binary (list []) Equal (list []))) Kind
unfolding meaning evaluated acts a_constant value operated is_settled is_equal
equal_lists = refl

-- `[].map(1)`: the callback is looked at though no item needs it
no_callback : Fails (only (call_member (list []) (codes "map") (number 1 ∷ []))) Kind
unfolding meaning evaluated acts a_constant value subject_call method is_function_named is_callback_named
    member_named written_name is_callback callbacks callback_in
no_callback = refl

-- `const a = b; const b = a;`
cycle : Fails (program (constant (global 1) ∷ constant (global 0) ∷ []) []) Cycle
unfolding meaning evaluated acts a_constant value named
cycle = refl

-- `function f() { return f(); }`, as an expression: after 200 open calls
endless : Fails (program (function 0 ∷ constant (call (global 0) []) ∷ [])
    (body 0 0 (tree.Expr (call (global 0) [])) ∷ [])) Depth
unfolding meaning evaluated acts a_constant value named applied body_value subject_call
endless = refl

-- `n => n === 0 ? 0 : g(n - 1)`, called with `n`
abbrev countdown : ℕ → ProgramData
countdown n =
    program (function 0 ∷ constant (call (global 0) (number n ∷ [])) ∷ [])
    (body 1 1 (tree.Expr (tree.Cond (binary (local 0) Equal (number 0)) (number 0)
    (call (global 0) (binary (local 0) Subtract (number 1) ∷ [])))) ∷ [])

-- a demanded constant and 199 bodies are open
as_deep_as_may_be : meaning (countdown 198) [] 10000 ≡ Ok []
unfolding meaning evaluated acts a_constant value named applied body_value operated is_settled is_equal
    difference_of is_true subject_call
as_deep_as_may_be = refl
