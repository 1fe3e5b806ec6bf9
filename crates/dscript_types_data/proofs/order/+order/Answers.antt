use Rattle.std.proofs.Common.{map, ap, ◌∙◌, arith}
use Rattle.std.specs.Cmp.Lexicographic.{slice_cmp}
use Rattle.dscript_types_data.specs.Views.{member_data}
use Rattle.dscript_types_data.specs.Weight.{members_weight}
use Rattle.dscript_types_meaning.specs.Codes.{member_cmp}
use Rattle.dscript_types_meaning.specs.Types.{members_of, to_members}
use Rattle.dscript_types_data.proofs.CodeOrders.{lists_cmp, lists_objects, lists_values, objects_cmp, objects_lists, objects_values}
use Rattle.dscript_types_data.proofs.CodeOrders.{values_cmp, values_lists, values_objects}
use Rattle.dscript_types_data.proofs.Rows.{size_again}
use Rattle.dscript_types_data.proofs.order.+order.Goals as goal

pub compare_members-returns-in-Values-Values : goal.compare_members-returns-in-Values-Values
compare_members-returns-in-Values-Values t c =
    rw (c.in-Values-Values.is-0, c.in-Values-Values.is-1)
    (values_cmp _ _ _ _ _ c.kind_number.ensures c.kind_number-in-Values-Values.ensures c.cmp.ensures)

pub compare_members-returns-in-Lists-Lists : goal.compare_members-returns-in-Lists-Lists
compare_members-returns-in-Lists-Lists t c =
    rw (c.in-Lists-Lists.is-0, c.in-Lists-Lists.is-1) (lists_cmp _ _ _ c.compare_types.ensures)

pub compare_members-returns-in-Objects-Objects : goal.compare_members-returns-in-Objects-Objects
compare_members-returns-in-Objects-Objects t c =
    rw (c.in-Objects-Objects.is-0, c.in-Objects-Objects.is-1)
    (objects_cmp _ _ _ _ _ c.items.ensures c.items-in-Objects-Objects.ensures c.compare_fields.ensures)

pub compare_members-returns-in-Values-Lists : goal.compare_members-returns-in-Values-Lists
compare_members-returns-in-Values-Lists t c = rw (c.in-Values-Lists.is-0, c.in-Values-Lists.is-1) (values_lists _ _)

pub compare_members-returns-in-Values-Objects : goal.compare_members-returns-in-Values-Objects
compare_members-returns-in-Values-Objects t c = rw (c.in-Values-Objects.is-0, c.in-Values-Objects.is-1) (values_objects _ _)

pub compare_members-returns-in-Lists-Objects : goal.compare_members-returns-in-Lists-Objects
compare_members-returns-in-Lists-Objects t c = rw (c.in-Lists-Objects.is-0, c.in-Lists-Objects.is-1) (lists_objects _ _)

pub compare_members-returns-in-Lists-Values : goal.compare_members-returns-in-Lists-Values
compare_members-returns-in-Lists-Values t c = rw (c.in-Lists-Values.is-0, c.in-Lists-Values.is-1) (lists_values _ _)

pub compare_members-returns-in-Objects-Values : goal.compare_members-returns-in-Objects-Values
compare_members-returns-in-Objects-Values t c = rw (c.in-Objects-Values.is-0, c.in-Objects-Values.is-1) (objects_values _ _)

pub compare_members-returns-in-Objects-Lists : goal.compare_members-returns-in-Objects-Lists
compare_members-returns-in-Objects-Lists t c = rw (c.in-Objects-Lists.is-0, c.in-Objects-Lists.is-1) (objects_lists _ _)

pub compare_types-members-init : goal.compare_types-members-init
compare_types-members-init t c =
    let size = ap (λ xs. members_weight (to_members xs)) c.members-left.ensures ∙ size_again c.args.a.now in (
      ap (λ xs. slice_cmp member_cmp xs (map member_data c.members-right.result.now)) c.members-left.ensures
          ∙ ap (λ ys. slice_cmp member_cmp (members_of c.args.a.now) ys) c.members-right.ensures,
      omega (arith, size),
    )
