use Rattle.std.proofs.Common.{◌≡◌, drop, map}
use Rattle.std.specs.List.{list_all}
use Rattle.dscript_types_data.specs.Views.{member_data}
use Rattle.dscript_types_meaning.specs.Objects as objects
use Rattle.dscript_types_data.proofs.objects.may_be_spread.Given as goal

abbrev pub invariant-members : goal.invariant-members
invariant-members l =
    list_all objects.may_be_spread (map member_data (drop l.member-index l.members))
    ≡ list_all objects.may_be_spread (map member_data l.members)
