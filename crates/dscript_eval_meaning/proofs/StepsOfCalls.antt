-- How many steps calls take, and when constants take theirs.
use Rattle.std.proofs.Common.{◌≡◌, [], ◌∷◌, codes, None, Ok, Err, refl}
use Rattle.dscript_program.specs.declared.ambient.Ambient.TheVariants.{CmdArgument, WriteAllText}
use Rattle.dscript_ast.specs.declared.expr.PathKind.TheVariants as letters
use Rattle.pip_model_types.specs.declared.pip.PipKind.TheVariants.{Write}
use Rattle.dscript_program.specs.BoundTree as tree
use Rattle.dscript_program.specs.BoundTree.{to_props}
use Rattle.dscript_program.specs.ProgramData.{ProgramData}
use Rattle.dscript_eval_operators.specs.PathLiterals.{path_literal}
use Rattle.dscript_sdk_members.specs.Names.{member_named, written_name}
use Rattle.dscript_sdk_members.specs.TextMembers.{text_function}
use Rattle.dscript_sdk.specs.Calls.{call_of}
use Rattle.dscript_sdk.specs.Members.{is_callback_named, is_function_named, method_answer, method_of}
use Rattle.dscript_sdk_pips.specs.WriteAllText.{write_all_text}
use Rattle.dscript_eval_meaning.specs.declared.fault.EvalKind.TheVariants as kinds
use Rattle.dscript_eval_meaning.specs.Calls.{ambient as ambient_call, applied, subject_call, method}
use Rattle.dscript_eval_meaning.specs.Constants.{constant as a_constant}
use Rattle.dscript_eval_meaning.specs.Expressions.{arrow, named, value}
use Rattle.dscript_eval_meaning.specs.Meaning.{Refused, acts, evaluated, meaning}
use Rattle.dscript_eval_meaning.specs.Statements.{body_value, does}
use Rattle.dscript_eval_meaning.proofs.Samples.{Takes, ambient, body, build, call, call_member, constant, function}
use Rattle.dscript_eval_meaning.proofs.Samples.{global}
use Rattle.dscript_eval_meaning.proofs.Samples.{literal, local, number, only, program, text, with_function}
use Rattle.std.specs.Prelude.{Some}

-- `Cmd.argument` as a value
ambient_value : Takes (only (ambient CmdArgument)) 1
unfolding meaning evaluated acts a_constant value named
ambient_value = (refl, refl)

-- `"a".contains("a")`
method_call : Takes (only (call_member (text (codes "a")) (codes "contains") (text (codes "a") ∷ []))) 4
unfolding meaning evaluated acts a_constant value subject_call method method_of method_answer is_callback_named
    is_function_named member_named written_name text_function
method_call = (refl, refl)

-- `y => y`
arrow_value : Takes (with_function (body 1 1 (tree.Expr (local 0))) (tree.Arrow 0)) 1
unfolding meaning evaluated acts a_constant value arrow
arrow_value = (refl, refl)

-- `(y => y)(1)`
arrow_call : Takes (with_function (body 1 1 (tree.Expr (local 0))) (call (tree.Arrow 0) (number 1 ∷ []))) 4
unfolding meaning evaluated acts a_constant value arrow applied body_value named subject_call
arrow_call = (refl, refl)

-- `function g(n) { return n; } const x = g(1);`
function_call
    : Takes
    (program (function 0 ∷ constant (call (global 0) (number 1 ∷ [])) ∷ [])
    (body 1 1 (tree.Stmts (tree.Return (Some (local 0)) ∷ [])) ∷ []))
    5
unfolding meaning evaluated acts a_constant value applied body_value does named subject_call
function_call = (refl, refl)

-- `const a = 1; const b = a; const c = a;`: the expression of `a` is paid once
demanded_once : Takes (program (constant (number 1) ∷ constant (global 0) ∷ constant (global 0) ∷ []) []) 3
unfolding meaning evaluated acts a_constant value named
demanded_once = (refl, refl)

-- `const b = a; const a = 1;`: the expression of `a` is paid when `b` demands it
demanded_early : Takes (program (constant (global 1) ∷ constant (number 1) ∷ []) []) 2
unfolding meaning evaluated acts a_constant value named
demanded_early = (refl, refl)

-- a file that is written with the text `hi`
abbrev written : ProgramData
written =
    only (call (ambient WriteAllText)
    (tree.Object (to_props
    (tree.Named (codes "outputPath") (literal letters.Path (codes "out/a"))
    ∷ tree.Named (codes "text") (text (codes "hi"))
    ∷ [])) ∷ []))

one_pip
    : meaning written [] 5
    ≡ Ok (record {
      spec = build;
      kind = Write (record {
        to = codes "out" ∷ codes "a" ∷ [];
        text = codes "hi";
      });
    } ∷ [])
unfolding meaning evaluated acts a_constant value named applied ambient_call call_of write_all_text
    path_literal subject_call
one_pip = refl

no_pip : meaning written [] 4 ≡ Err (Refused kinds.Budget build None)
unfolding meaning evaluated acts a_constant value named applied ambient_call call_of write_all_text
    path_literal subject_call
no_pip = refl
