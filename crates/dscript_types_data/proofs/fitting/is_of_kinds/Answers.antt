use Rattle.std.proofs.Common.{rules, ◌≡◌, ◌∙◌, true, map}
use Rattle.dscript_types_data.proofs.Fitted.{fits_kinds, member_goes}
use Rattle.dscript_types_meaning.specs.Types.{Values}
use Rattle.dscript_types_data.proofs.fitting.is_of_kinds.Goals as goal

pub members-init : goal.members-init
members-init c = fits_kinds c.args.t.now c.args.kinds.now _ c.members-member-items.ensures

pub members-preserved : goal.members-preserved
members-preserved c =
    let holds : true ≡ c.is_of_one.result = search rules in
    member_goes c.members-member-items.result.now c.members.member-index c.member-item.result
    (map Values c.args.kinds.now) c.is_of_one.result c.members-test.true c.member-item.is c.is_of_one.ensures holds
    ∙ c.members.invariant
