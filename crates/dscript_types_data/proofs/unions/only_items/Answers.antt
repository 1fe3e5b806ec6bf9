use Rattle.std.proofs.Common.{◌≡◌, length, arith}
use Rattle.std.proofs.lemmas.Bool.Decides.{nat_tests}
use Rattle.dscript_types_data.proofs.Few.{items_alone, seen_few}
use Rattle.dscript_types_data.proofs.unions.only_items.Goals as goal

pub returns-else-members-gt1 : goal.returns-else-members-gt1
returns-else-members-gt1 c =
    let empty = c.is_empty.ensures in
    let told = c.if-not-is_empty.false in
    let none : length c.in-Some.others.now ≡ 0 = grind (arith, nat_tests) in
    items_alone c.args.t.now c.in-Lists.item _ _ _ c.members.ensures c.in-Some.ensures.cases.0 none c.in-Lists.is
    (seen_few c.members-in-Lists.result.now c.in-Lists.item c.members-in-Lists.ensures (omega (arith, c.if-members-gt1.false)))
