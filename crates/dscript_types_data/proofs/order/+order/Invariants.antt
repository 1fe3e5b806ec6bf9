use Rattle.std.proofs.Common.{◌≡◌, ◌≤◌, ◌+◌, length, map}
use Rattle.std.specs.Cmp.Lexicographic.{slice_cmp}
use Rattle.dscript_types_data.specs.Orders.{field_order, types_order}
use Rattle.dscript_types_data.specs.Views.{field_data, member_data, union_data}
use Rattle.dscript_types_data.specs.Weight.{fields_size, member_weight, type_size}
use Rattle.dscript_types_meaning.specs.Codes.{member_cmp}
use Rattle.dscript_types_data.proofs.order.+order.Given as goal

abbrev pub decreases-compare_members : goal.decreases-compare_members
decreases-compare_members l = member_weight (member_data l.a.now)

abbrev pub decreases-compare_types : goal.decreases-compare_types
decreases-compare_types l = type_size l.a.now

abbrev pub invariant-compare_types-members : goal.invariant-compare_types-members
invariant-compare_types-members l =
    (slice_cmp member_cmp (map member_data l.left) (map member_data l.right) ≡ types_order l.fn.a l.fn.b)
    × (type_size (union_data l.left) ≤ type_size l.fn.a)

abbrev pub decreases-compare_types-members : goal.decreases-compare_types-members
decreases-compare_types-members l = length l.left

abbrev pub decreases-compare_fields : goal.decreases-compare_fields
decreases-compare_fields l = fields_size (map field_data l.fields.now)

abbrev pub invariant-compare_fields-fields : goal.invariant-compare_fields-fields
invariant-compare_fields-fields l =
    (slice_cmp field_order (map field_data l.left) (map field_data l.right)
    ≡ slice_cmp field_order (map field_data l.fn.fields) (map field_data l.fn.others))
    × (fields_size (map field_data l.left) ≤ fields_size (map field_data l.fn.fields))

abbrev pub decreases-compare_fields-fields : goal.decreases-compare_fields-fields
decreases-compare_fields-fields l = length l.left

abbrev pub decreases-compare_field : goal.decreases-compare_field
decreases-compare_field l = type_size l.field.now.type_data + 1
