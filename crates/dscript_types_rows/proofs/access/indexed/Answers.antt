use Rattle.std.proofs.Common.{◌∙◌, ap, sym}
use Rattle.std.specs.Option.{option_and_then}
use Rattle.dscript_types_meaning.specs.Access.{at_index, indexed}
use Rattle.dscript_types_meaning.specs.Sizes.{within_limit}
use Rattle.dscript_types_rows.proofs.Over.{over_begins, over_ends, over_goes, over_stops}
use Rattle.dscript_types_rows.proofs.access.indexed.Goals as goal

pub members-init : goal.members-init
members-init c =
    over_begins (at_index c.args.index.now) _ _ _ c.members-left.ensures c.in_ok-answer.ensures

pub members-preserved : goal.members-preserved
members-preserved c =
    over_goes (at_index c.args.index.now) _ _ _ _ _ _ _ _ c.in-Some.ensures.cases.0 c.in_ok-held.ensures
    c.in-Some-2.is c.in_ok-answer-2.ensures c.members.invariant

pub returns-in_default-2 : goal.returns-in_default-2
unfolding indexed
returns-in_default-2 c =
    sym (ap (option_and_then within_limit)
    (over_stops (at_index c.args.index.now) _ _ _ _ _ _ c.in-Some.ensures.cases.0 c.in_ok-held.ensures
    c.in_default-2.is c.members.invariant))

pub returns : goal.returns
unfolding indexed
returns c =
    c.within_limit.ensures
    ∙ sym (ap (option_and_then within_limit)
    (over_ends (at_index c.args.index.now) _ _ _ c.in_default.ensures.cases c.members.invariant))
