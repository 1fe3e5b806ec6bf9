use Rattle.std.proofs.Common.{◌-◌, arith, subst, sym, ap, ◌∙◌}
use Rattle.dscript_value.specs.Inner.{IsJoin, IsWhole, joined_items, values_of_parts}
use Rattle.dscript_value.proofs.Inside.{item_on_left, item_on_right, left_smaller, right_smaller}
use Rattle.dscript_value.proofs.value.Values.get.Goals as goal

pub down-smaller-then-at-first : goal.down-smaller-then-at-first
down-smaller-then-at-first c =
    left_smaller c.deref-join.result.now c.down.here.now
    (subst IsJoin (sym c.deref-join.ensures) (subst IsWhole c.in-Joined.is c.here.invariant))
    (ap joined_items c.deref-join.ensures ∙ sym (ap values_of_parts c.in-Joined.is) ∙ c.here.view_is)

pub down-preserved-then-at-first : goal.down-preserved-then-at-first
down-preserved-then-at-first c =
    item_on_left c.deref-join.result.now c.down.here.now c.down.at
    (ap joined_items c.deref-join.ensures ∙ sym (ap values_of_parts c.in-Joined.is) ∙ c.here.view_is)
    (omega (arith, c.if-at-first.true, c.len-first.ensures.len)) ∙ c.down.invariant

pub down-smaller : goal.down-smaller
down-smaller c =
    right_smaller c.deref-join.result.now c.down.here.now
    (subst IsJoin (sym c.deref-join.ensures) (subst IsWhole c.in-Joined.is c.here.invariant))
    (ap joined_items c.deref-join.ensures ∙ sym (ap values_of_parts c.in-Joined.is) ∙ c.here.view_is)

pub down-preserved : goal.down-preserved
down-preserved c =
    item_on_right c.deref-join.result.now c.down.here.now c.down.at (c.down.at - c.len-first.result)
    (ap joined_items c.deref-join.ensures ∙ sym (ap values_of_parts c.in-Joined.is) ∙ c.here.view_is)
    (omega (arith, c.if-at-first.false, c.len-first.ensures.len)) ∙ c.down.invariant
