use Rattle.std.proofs.Common.{◌∙◌, sym}
use Rattle.observed.proofs.ReadTexts.{rising_more}
use Rattle.observed.proofs.texts.is_rising.Goals as goal

pub asks-preserved : goal.asks-preserved
asks-preserved c =
    rising_more c.asks.rest.now c.in-Some.more.now c.in-Some-split_first.field-0-1.now c.in-Some.first.now c.in-Some-split_first.second.now
    c.in-Some.ensures.cases.0 c.in-Some-split_first.ensures.cases.0 (sym c.comes_before.ensures ∙ c.if-not-comes_before.false)
    ∙ c.asks.invariant
