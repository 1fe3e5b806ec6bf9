use Rattle.std.proofs.Common.{◌≡◌, ◌++◌, drop, filter, map, not}
use Rattle.dscript_types_data.specs.Views.{member_data}
use Rattle.dscript_types_meaning.specs.Types.{members_of}
use Rattle.dscript_types_meaning.specs.Unions.{is_undefined}
use Rattle.dscript_types_data.proofs.unions.without_undefined.Given as goal

abbrev pub invariant-members : goal.invariant-members
invariant-members l =
    map member_data l.members.items ++ filter (λ m. not (is_undefined m)) (map member_data (drop l.member-index l.member-items))
    ≡ filter (λ m. not (is_undefined m)) (members_of l.t)
