use Rattle.std.proofs.Common.{◌≡◌, drop, map}
use Rattle.std.specs.List.{list_all}
use Rattle.dscript_types_data.specs.Views.{member_data}
use Rattle.dscript_types_meaning.specs.Fits.{requires}
use Rattle.dscript_types_meaning.specs.Objects.{fields_in}
use Rattle.dscript_types_data.proofs.objects.all_require.Given as goal

abbrev pub invariant-members : goal.invariant-members
invariant-members l =
    list_all (λ m. requires (fields_in m) l.name) (map member_data (drop l.member-index l.members))
    ≡ list_all (λ m. requires (fields_in m) l.name) (map member_data l.members)
