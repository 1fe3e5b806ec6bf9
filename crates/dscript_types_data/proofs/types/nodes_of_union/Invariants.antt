use Rattle.std.proofs.Common.{◌≡◌, ◌+◌, ◌^◌, ◌<◌, drop, map}
use Rattle.dscript_types_data.specs.Views.{at_most, member_data, union_data}
use Rattle.dscript_types_meaning.specs.Sizes.{members_nodes, type_nodes}
use Rattle.dscript_types_meaning.specs.Types.{to_members}
use Rattle.dscript_types_data.proofs.types.nodes_of_union.Given as goal

abbrev pub invariant-members : goal.invariant-members
invariant-members l =
    (l.nodes < 2 ^ 32)
    × (at_most (l.nodes + members_nodes (to_members (map member_data (drop l.member-index l.members))))
    ≡ at_most (type_nodes (union_data l.members)))
