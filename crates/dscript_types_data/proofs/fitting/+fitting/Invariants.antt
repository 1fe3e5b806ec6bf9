use Rattle.std.proofs.Common.{◌≡◌, ◌*◌, ◌+◌, drop, map}
use Rattle.std.specs.List.{list_any}
use Rattle.dscript_types_data.specs.Views.{field_data, member_data}
use Rattle.dscript_types_data.specs.Weight.{fields_size, member_weight, type_size}
use Rattle.dscript_types_meaning.specs.Fits.{all_fit, fields_fit, fits, member_fits}
use Rattle.dscript_types_meaning.specs.Types.{members_of, to_fields, to_members}
use Rattle.dscript_types_data.proofs.fitting.+fitting.Given as goal

abbrev pub decreases-fits : goal.decreases-fits
decreases-fits l = 2 * type_size l.t.now

abbrev pub invariant-fits-members : goal.invariant-fits-members
invariant-fits-members l =
    all_fit (to_members (map member_data (drop l.member-index l.member-items))) (members_of l.fn.other)
    ≡ fits l.fn.t l.fn.other

abbrev pub decreases-fits_one : goal.decreases-fits_one
decreases-fits_one l = 2 * member_weight (member_data l.member.now) + 1

abbrev pub invariant-fits_one-others : goal.invariant-fits_one-others
invariant-fits_one-others l =
    list_any (λ o. member_fits (member_data l.fn.member) o) (map member_data (drop l.other-index l.others))
    ≡ list_any (λ o. member_fits (member_data l.fn.member) o) (map member_data l.others)

abbrev pub decreases-member_fits : goal.decreases-member_fits
decreases-member_fits l = 2 * member_weight (member_data l.member.now)

abbrev pub decreases-fields_fit : goal.decreases-fields_fit
decreases-fields_fit l = 2 * fields_size (map field_data l.fields.now)

abbrev pub invariant-fields_fit-fields : goal.invariant-fields_fit-fields
invariant-fields_fit-fields l =
    fields_fit (to_fields (map field_data (drop l.field-index l.fields))) (map field_data l.others)
    ≡ fields_fit (to_fields (map field_data l.fields)) (map field_data l.others)
