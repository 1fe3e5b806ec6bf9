use Rattle.std.proofs.Common.{subst, sym, ap, ◌∙◌}
use Rattle.dscript_value.specs.declared.value.Join.{Join}
use Rattle.dscript_value.specs.Inner.{IsWhole, values_of_parts}
use Rattle.dscript_value.proofs.Inside.{count_joined}
use Rattle.dscript_value.proofs.value.Values.len.Goals as goal

pub returns-in-Joined-clause-len : goal.returns-in-Joined-clause-len
returns-in-Joined-clause-len c =
    ap (λ (j : Join). j.count) c.deref.ensures
    ∙ count_joined c.in-Joined.join.value c.args.self.now (subst IsWhole c.in-Joined.is c.self.invariant)
    (sym (ap values_of_parts c.in-Joined.is) ∙ c.self.view_is)
