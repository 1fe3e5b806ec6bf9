use Rattle.std.proofs.Common.{◌≡◌, arith, ap, length, map, refl, rules, sym, take, vec_len, ◌∙◌}
use Rattle.std.proofs.lemmas.List.{length-map}
use Rattle.dscript_ast.specs.Views.{param_tree}
use Rattle.dscript_program.specs.Views.{expr_data, function_data}
use Rattle.dscript_value.specs.Plain.{plain_of}
use Rattle.dscript_eval_frames.specs.Statuses.{statuses}
use Rattle.dscript_eval_frames.specs.Views.{seen}
use Rattle.dscript_eval.proofs.CallsNow.{body_given, knows_args}
use Rattle.dscript_eval.proofs.calls_now.body_at_once.Goals as goal

pub returns-in-Some-clause-given : goal.returns-in-Some-clause-given
returns-in-Some-clause-given c holds =
    let code = function_data c.args.code.now in
    let long : vec_len c.args.code.now.params ≡ length c.args.code.now.params.items = search rules in
    let count : c.len-count.result ≡ length code.params =
    c.len-count.ensures ∙ long ∙ sym (length-map c.args.code.now.params.items param_tree) in
    body_given (seen c.args.machine.now) _ (function_data c.args.code.now) (expr_data c.args.e.now) (map plain_of c.args.args.now)
    _ _ _ _ c.in-Some.ensures
    (λ held. knows_args (seen c.args.machine.now) code held (map plain_of c.args.args.now) _ refl refl refl
    (c.first_of.ensures ∙ ap (λ n. take n (map plain_of c.args.args.now)) count)
    (ap statuses (sym c.as_slice.ensures.value)) (omega (arith, count, c.if-count-code.false)))
    refl c.give.ensures
