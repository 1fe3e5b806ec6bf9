use Rattle.std.proofs.Common.{◌≡◌, ◌++◌, drop, map}
use Rattle.dscript_types_data.specs.Views.{member_data}
use Rattle.dscript_types_meaning.specs.Ambients.{without_free}
use Rattle.dscript_types_meaning.specs.Types.{members_of}
use Rattle.dscript_types_rows.proofs.ambients.looked_type.Given as goal

abbrev pub invariant-members : goal.invariant-members
invariant-members l =
    map member_data l.members.items ++ map without_free (map member_data (drop l.member-index l.member-items))
    ≡ map without_free (members_of l.t)
