use Rattle.std.proofs.Common.{◌∙◌, refl, sym}
use Rattle.dscript_types_data.specs.Views.{member_data}
use Rattle.dscript_types_meaning.specs.Operators.{sum_of}
use Rattle.dscript_types_rows.proofs.Over.{over_begins, over_goes, over_stops}
use Rattle.dscript_types_rows.proofs.operators.sums_of.Goals as goal

pub members-init : goal.members-init
members-init c =
    over_begins (sum_of (member_data c.args.a.now)) _ _ _ refl c.in_ok-answer.ensures

pub members-preserved : goal.members-preserved
members-preserved c =
    over_goes (sum_of (member_data c.args.a.now)) _ _ _ _ _ _ _ _ c.in-Some.ensures.cases.0
    (c.in_ok-t.ensures ∙ c.sum_kind.ensures) c.in-Some-2.is c.in_ok-answer-2.ensures c.members.invariant

pub returns-in_default-2 : goal.returns-in_default-2
returns-in_default-2 c =
    sym (over_stops (sum_of (member_data c.args.a.now)) _ _ _ _ _ _ c.in-Some.ensures.cases.0
    (c.in_ok-t.ensures ∙ c.sum_kind.ensures) c.in_default-2.is c.members.invariant)
