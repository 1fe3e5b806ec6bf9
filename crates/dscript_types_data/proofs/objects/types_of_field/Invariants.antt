use Rattle.std.proofs.Common.{◌≡◌, ◌++◌, drop, filter_map, map}
use Rattle.dscript_types_data.specs.Views.{member_data}
use Rattle.dscript_types_meaning.specs.Objects.{type_of_field}
use Rattle.dscript_types_data.proofs.objects.types_of_field.Given as goal

abbrev pub invariant-members : goal.invariant-members
invariant-members l =
    l.types.items ++ filter_map (type_of_field l.name) (map member_data (drop l.member-index l.members))
    ≡ filter_map (type_of_field l.name) (map member_data l.members)
