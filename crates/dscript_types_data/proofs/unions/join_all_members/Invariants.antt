use Rattle.std.proofs.Common.{◌≡◌, ◌++◌, drop, map}
use Rattle.std.specs.List.{flat_map}
use Rattle.dscript_types_data.specs.Views.{member_data}
use Rattle.dscript_types_meaning.specs.Types.{members_of}
use Rattle.dscript_types_data.proofs.unions.join_all_members.Given as goal

abbrev pub invariant-types : goal.invariant-types
invariant-types l =
    map member_data l.members.items ++ flat_map members_of (drop l.t-index l.types) ≡ flat_map members_of l.types
