use Rattle.std.proofs.Common.{map, sym, ap, ◌∙◌}
use Rattle.dscript_value.specs.declared.value.Join.{Join}
use Rattle.dscript_value.specs.Inner.{values_of_parts}
use Rattle.dscript_value.specs.Plain.{plain_of}
use Rattle.dscript_value.proofs.Inside.{added_both}
use Rattle.dscript_value.proofs.joining.+add_shares.Goals as goal

pub returns-in_ok-add_shares-in-Joined-2 : goal.returns-in_ok-add_shares-in-Joined-2
returns-in_ok-add_shares-in-Joined-2 t c =
    added_both c.in-Joined.join.value c.args.values.now c.deref.result.now.left c.deref-in-Joined.result.now.right
    (map plain_of c.args.items.now.items) (map plain_of c.add_shares.new.items.items) (map plain_of c.add_shares-in-Joined.new.items.items)
    (sym (ap values_of_parts c.in-Joined.is) ∙ c.values.view_is)
    (ap (λ (j : Join). j.left) c.deref.ensures) (ap (λ (j : Join). j.right) c.deref-in-Joined.ensures)
    c.in_ok-add_shares-in-Joined.ensures c.in_ok-add_shares-in-Joined-2.ensures
