use Rattle.std.proofs.Common.{◌≡◌, ◌++◌, drop, filter_map, map}
use Rattle.std.specs.List.{flat_map}
use Rattle.dscript_types_data.specs.Views.{member_data}
use Rattle.dscript_types_meaning.specs.Types.{members_of}
use Rattle.dscript_types_meaning.specs.Unions.{item_of}
use Rattle.dscript_types_data.proofs.unions.all_items.Given as goal

abbrev pub invariant-members : goal.invariant-members
invariant-members l =
    map member_data l.members.items
    ++ flat_map members_of (filter_map item_of (map member_data (drop l.member-index l.member-items)))
    ≡ flat_map members_of (filter_map item_of (members_of l.t))
