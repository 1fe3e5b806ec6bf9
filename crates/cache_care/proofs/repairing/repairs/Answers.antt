use Rattle.std.proofs.Common.{◌≡◌, ◌∙◌, ap, arith, length, map}
use Rattle.std.specs.Prelude.{string_bytes}
use Rattle.std.proofs.lemmas.List.{length-map}
use Rattle.bx_io.specs.Holdings.{Change, name_of}
use Rattle.bx_io.specs.Names.{IsName}
use Rattle.cache_care.specs.Counts.{drop_count}
use Rattle.cache_care.specs.Planning.{planned_change}
use Rattle.cache_care.specs.Repairing.{repairs}
use Rattle.cache_care.proofs.Found.{planned_both, repairs_few, repairs_names}
use Rattle.cache_care.proofs.Plans.{names_by_recursion, of_plan}
use Rattle.cache_care.proofs.repairing.repairs.Goals as goal

pub returns-clause-names : goal.returns-clause-names
returns-clause-names c =
    let names = map string_bytes c.args.survey.now.names.items in
    let found = c.args.survey.now.findings.items in
    of_plan (λ (x : Change). IsName (name_of x)) c.drop_found-2.new.plan.items (repairs names found)
    (planned_both names found c.new-plan.result.items c.drop_found.new.plan.items c.drop_found-2.new.plan.items c.new-plan.ensures.items
    c.in_ok-drop_found.ensures c.in_ok-drop_found-2.ensures)
    (repairs_names names found (names_by_recursion string_bytes c.args.survey.now.names.items c.requires.names))

pub returns-clause-few : goal.returns-clause-few
returns-clause-few c =
    let names = map string_bytes c.args.survey.now.names.items in
    let found = c.args.survey.now.findings.items in
    let is : map planned_change c.drop_found-2.new.plan.items ≡ repairs names found =
    planned_both names found c.new-plan.result.items c.drop_found.new.plan.items c.drop_found-2.new.plan.items c.new-plan.ensures.items
    c.in_ok-drop_found.ensures c.in_ok-drop_found-2.ensures in
    let few = repairs_few names found in
    let same = length-map c.args.survey.now.names.items string_bytes in
    let count = ap drop_count is in
    omega (arith, few, same, count)
