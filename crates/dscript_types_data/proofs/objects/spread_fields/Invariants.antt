use Rattle.std.proofs.Common.{◌≡◌, ◌++◌, drop, map}
use Rattle.dscript_types_data.specs.Views.{field_data, member_data}
use Rattle.dscript_types_meaning.specs.Objects.{names_in, spread_field}
use Rattle.dscript_types_meaning.specs.Types.{members_of}
use Rattle.dscript_types_data.proofs.objects.spread_fields.Given as goal

abbrev pub invariant-members : goal.invariant-members
invariant-members l =
    map field_data l.fields.items
    ++ map (spread_field (members_of l.t)) (names_in (map member_data (drop l.member-index l.member-items)))
    ≡ map (spread_field (members_of l.t)) (names_in (members_of l.t))
