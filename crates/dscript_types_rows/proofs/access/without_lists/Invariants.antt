use Rattle.std.proofs.Common.{◌≡◌, ◌++◌, drop, filter, map, not}
use Rattle.dscript_types_data.specs.Views.{member_data}
use Rattle.dscript_types_meaning.specs.Types.{members_of}
use Rattle.dscript_types_meaning.specs.Unions.{is_list}
use Rattle.dscript_types_rows.proofs.access.without_lists.Given as goal

abbrev pub invariant-members : goal.invariant-members
invariant-members l =
    map member_data l.members.items ++ filter (λ m. not (is_list m)) (map member_data (drop l.member-index l.member-items))
    ≡ filter (λ m. not (is_list m)) (members_of l.t)
