use Rattle.std.proofs.Common.{◌≡◌, drop, map}
use Rattle.std.specs.List.{list_any}
use Rattle.dscript_types_data.specs.Views.{member_data}
use Rattle.dscript_types_meaning.specs.Types.{members_of}
use Rattle.dscript_types_meaning.specs.Unions.{is_list}
use Rattle.dscript_types_data.proofs.members.can_be_list.Given as goal

abbrev pub invariant-members : goal.invariant-members
invariant-members l =
    list_any is_list (map member_data (drop l.member-index l.member-items)) ≡ list_any is_list (members_of l.t)
