use Rattle.std.proofs.Common.{◌≡◌, drop, map}
use Rattle.std.specs.List.{list_any}
use Rattle.dscript_types_data.specs.Views.{member_data}
use Rattle.dscript_types_meaning.specs.Fits.{member_fits}
use Rattle.dscript_types_meaning.specs.Types.{Values}
use Rattle.dscript_types_data.proofs.fitting.is_of_one.Given as goal

abbrev pub invariant-kinds : goal.invariant-kinds
invariant-kinds l =
    list_any (λ o. member_fits (Values l.own) o) (map Values (drop l.kind-index l.kinds))
    ≡ list_any (λ o. member_fits (member_data l.member) o) (map Values l.kinds)
