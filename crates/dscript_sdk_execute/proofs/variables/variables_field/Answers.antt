use Rattle.std.proofs.Common.{◌≡◌, MatchResult, Ok, codes, ap, subst, sym, ◌∙◌}
use Rattle.dscript_value.specs.Plain.{member_list, plain_fields, plain_of}
use Rattle.dscript_sdk_values.specs.Outcomes.{Refuses}
use Rattle.dscript_sdk_execute.specs.ExecuteObject.{variables_in}
use Rattle.dscript_sdk_execute.proofs.Fields.{list_missing, list_there}
use Rattle.dscript_sdk_execute.proofs.variables.variables_field.Goals as goal

pub returns-in-Some : goal.returns-in-Some
returns-in-Some c =
    let whole = list_there (member_list (plain_fields c.args.fields.now).members) (codes "environmentVariables") variables_in
    (plain_of c.in-Some.value.now) c.in-Some.ensures in
    subst (λ o. MatchResult c.read_variables.result (λ variables. o ≡ Ok variables) (λ fault. Refuses fault o)) (sym whole)
    c.read_variables.ensures

pub returns-in-None : goal.returns-in-None
returns-in-None c =
    list_missing (member_list (plain_fields c.args.fields.now).members) (codes "environmentVariables") variables_in
    c.in-None.ensures ∙ ap Ok (sym c.no_variables.ensures)
