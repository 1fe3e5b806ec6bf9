use Rattle.std.proofs.Common.{◌≡◌, drop, map}
use Rattle.dscript_types_data.specs.Views.{member_data}
use Rattle.dscript_types_meaning.specs.Fits.{all_fit, fits}
use Rattle.dscript_types_meaning.specs.Types.{Union, Values, to_members}
use Rattle.dscript_types_data.proofs.fitting.is_of_kinds.Given as goal

abbrev pub invariant-members : goal.invariant-members
invariant-members l =
    all_fit (to_members (map member_data (drop l.member-index l.member-items))) (map Values l.kinds)
    ≡ fits l.t (Union (to_members (map Values l.kinds)))
