use Rattle.std.proofs.Common.{◌≡◌, Some, ap, arith, length, sym, ◌∙◌}
use Rattle.std.proofs.lemmas.Bool.Decides.{nat_tests}
use Rattle.dscript_types_notes.proofs.Single.{one_object_is}
use Rattle.dscript_types_notes.proofs.notes.one_object.Goals as goal

pub returns-in_ok-shared_fields-in-Objects : goal.returns-in_ok-shared_fields-in-Objects
returns-in_ok-shared_fields-in-Objects c =
    let empty = sym c.is_empty.ensures ∙ c.if-not-is_empty.false in
    let none : length c.in-Some.others.now ≡ 0 = grind (arith, nat_tests) in
    ap Some (c.in_ok-shared_fields-in-Objects.ensures ∙ c.items.ensures)
    ∙ one_object_is c.args.t.now c.members.result.now c.members.ensures c.in-Some.member.now c.in-Some.others.now
    c.in-Some.ensures.cases.0 c.in-Objects.fields none c.in-Objects.is
