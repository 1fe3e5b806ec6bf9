use Rattle.std.proofs.Common.{◌∙◌, Some, ap, sym}
use Rattle.std.specs.Option.{option_copied, option_map}
use Rattle.dscript_types_known.specs.Views.{found_local}
use Rattle.dscript_types_scenes.specs.Statements.{variable_rule}
use Rattle.dscript_types_scenes.proofs.rules.fits_variable.Goals as goal

pub returns-in-None : goal.returns-in-None
returns-in-None c =
    ap (λ o. variable_rule o c.args.found.now) (ap (λ o. option_map found_local (option_copied o)) (sym c.in-None.is) ∙ c.get.ensures)

pub returns-in-Found : goal.returns-in-Found
returns-in-Found c =
    c.variable_rule.ensures
    ∙ ap (variable_rule (Some (found_local c.in-Some.local.now))) (sym c.in-Found.is)
    ∙ ap (λ o. variable_rule o c.args.found.now) (ap (λ o. option_map found_local (option_copied o)) (sym c.in-Some.is) ∙ c.get.ensures)

pub returns-in-Nothing : goal.returns-in-Nothing
returns-in-Nothing c =
    ap (variable_rule (Some (found_local c.in-Some.local.now))) (sym c.in-Nothing.is)
    ∙ ap (λ o. variable_rule o c.args.found.now) (ap (λ o. option_map found_local (option_copied o)) (sym c.in-Some.is) ∙ c.get.ensures)

pub returns-in-Open : goal.returns-in-Open
returns-in-Open c =
    ap (variable_rule (Some (found_local c.in-Some.local.now))) (sym c.in-Open.is)
    ∙ ap (λ o. variable_rule o c.args.found.now) (ap (λ o. option_map found_local (option_copied o)) (sym c.in-Some.is) ∙ c.get.ensures)
