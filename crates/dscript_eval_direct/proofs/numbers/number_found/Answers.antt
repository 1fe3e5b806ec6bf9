use Rattle.std.proofs.Common.{◌≡◌, rules, ap, subst, sym, ◌∙◌}
use mir.Syntax.{w32}
use mir.Val.{to_z, of_z}
use Rattle.dscript_program.specs.Views.{expr_data}
use Rattle.dscript_value.specs.Plain as plain
use Rattle.dscript_value.specs.Plain.{Plain}
use Rattle.dscript_eval_direct.specs.Now.{IsAtOnce, knowledge}
use Rattle.dscript_eval_direct.proofs.numbers.number_found.Goals as goal

pub returns-in-Some : goal.returns-in-Some
returns-in-Some c =
    let n = c.in-Some.number in
    let same : to_z w32 (of_z w32 n) ≡ n = search rules in
    let P : Plain → Type 0 = λ x. IsAtOnce (knowledge c.args.known.now) (expr_data c.args.e.now) c.args.left x
    c.number_of.new.left in
    subst P (sym (c.number_value.ensures ∙ ap plain.Number same)) c.in-Some.ensures
