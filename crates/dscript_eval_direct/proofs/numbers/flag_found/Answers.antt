use Rattle.std.proofs.Common.{subst, sym}
use Rattle.dscript_program.specs.Views.{expr_data}
use Rattle.dscript_value.specs.Plain.{Plain}
use Rattle.dscript_eval_direct.specs.Now.{IsAtOnce, knowledge}
use Rattle.dscript_eval_direct.proofs.numbers.flag_found.Goals as goal

pub returns-in-Some : goal.returns-in-Some
returns-in-Some c =
    let P : Plain → Type 0 = λ x. IsAtOnce (knowledge c.args.known.now) (expr_data c.args.e.now) c.args.left x
    c.flag_of.new.left in
    subst P (sym c.flag_value.ensures) c.in-Some.ensures
