use Rattle.std.proofs.Common.{◌∙◌, ap, sym}
use Rattle.dscript_types_data.specs.Views.{member_data}
use Rattle.dscript_types_meaning.specs.Operators.{at_each, sum_of}
use Rattle.dscript_types_meaning.specs.Types.{members_of}
use Rattle.dscript_types_rows.proofs.Over.{over_begins, over_goes, over_stops}
use Rattle.dscript_types_rows.proofs.operators.sums.Goals as goal

pub members-init : goal.members-init
members-init c =
    over_begins (λ m. at_each (sum_of m) (members_of c.args.u.now)) _ _ _ c.members-left.ensures c.in_ok-answer.ensures

pub members-preserved : goal.members-preserved
members-preserved c =
    over_goes (λ m. at_each (sum_of m) (members_of c.args.u.now)) _ _ _ _ _ _ _ _ c.in-Some.ensures.cases.0
    (c.in_ok-held.ensures ∙ ap (at_each (sum_of (member_data c.in-Some.a.now))) c.members-in-Some.ensures)
    c.in-Some-2.is c.in_ok-answer-2.ensures c.members.invariant

pub returns-in_default-2 : goal.returns-in_default-2
returns-in_default-2 c =
    sym (over_stops (λ m. at_each (sum_of m) (members_of c.args.u.now)) _ _ _ _ _ _ c.in-Some.ensures.cases.0
    (c.in_ok-held.ensures ∙ ap (at_each (sum_of (member_data c.in-Some.a.now))) c.members-in-Some.ensures)
    c.in_default-2.is c.members.invariant)
