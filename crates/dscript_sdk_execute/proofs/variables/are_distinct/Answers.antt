use Rattle.std.proofs.Common.{◌∙◌, refl, sym}
use Rattle.dscript_sdk_execute.proofs.Names.{distinct_more, sorted_more}
use Rattle.dscript_sdk_execute.proofs.variables.are_distinct.Goals as goal

pub pairs-init : goal.pairs-init
pairs-init c = record { sorted = c.requires; distinct = refl }

pub pairs-preserved : goal.pairs-preserved
pairs-preserved c = record {
  sorted = sorted_more c.pairs.rest.now c.in-Some.more.now c.in-Some.first.now c.in-Some.ensures.cases.0
      c.pairs.invariant.sorted;
  distinct =
      distinct_more c.pairs.rest.now c.in-Some.more.now c.in-Some-split_first.field-0-1.now c.in-Some.first.now
      c.in-Some-split_first.next.now c.in-Some.ensures.cases.0 c.in-Some-split_first.ensures.cases.0
      c.pairs.invariant.sorted (sym c.have_one_name.ensures ∙ c.if-have_one_name.false)
      ∙ c.pairs.invariant.distinct;
}
