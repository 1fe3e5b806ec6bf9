use Rattle.std.proofs.Common.{subst, sym, ap, ◌∙◌}
use Rattle.dscript_value.specs.declared.value.Join.{Join}
use Rattle.dscript_value.specs.Inner.{IsWhole, values_of_parts}
use Rattle.dscript_value.proofs.Inside.{halves_of}
use Rattle.dscript_value.proofs.joining.halves_above.Goals as goal

pub returns-in_ok-share-in-Joined-2 : goal.returns-in_ok-share-in-Joined-2
returns-in_ok-share-in-Joined-2 c =
    halves_of c.in-Joined.join.value c.in_ok-share-in-Joined.field-0 c.in_ok-share-in-Joined-2.field-0 c.args.values.now
    (c.in_ok-share-in-Joined.ensures ∙ ap (λ (j : Join). j.left) c.deref-in-Joined.ensures)
    (c.in_ok-share-in-Joined-2.ensures ∙ ap (λ (j : Join). j.right) c.deref-in-Joined-2.ensures)
    (subst IsWhole c.in-Joined.is c.values.invariant) (sym (ap values_of_parts c.in-Joined.is) ∙ c.values.view_is)
