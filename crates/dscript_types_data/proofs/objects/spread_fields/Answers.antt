use Rattle.std.proofs.Common.{map, ◌∙◌}
use Rattle.dscript_types_data.specs.Views.{field_data, member_data}
use Rattle.dscript_types_data.proofs.Placing.{spread_added}
use Rattle.dscript_types_meaning.specs.Types.{members_of}
use Rattle.dscript_types_data.proofs.objects.spread_fields.Goals as goal

pub members-preserved : goal.members-preserved
members-preserved c =
    spread_added c.members-member-items.result.now c.members.member-index c.member-item.result
    (map field_data c.members.fields.items) (map field_data c.add_spread.new.added.items)
    (map field_data c.fields_of.result.now) (members_of c.args.t.now)
    (map member_data c.members-in-members.result.now) c.members-test.true c.member-item.is
    c.in_ok-add_spread.ensures c.fields_of.ensures c.members-in-members.ensures
    ∙ c.members.invariant
