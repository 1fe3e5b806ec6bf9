use Rattle.std.proofs.Common.{◌∙◌, sym, lit≤}
use Rattle.tool_run.proofs.Numbers.{digits_of_number, number_is}
use Rattle.tool_run.proofs.values.number_of.Goals as goal

pub value_below-requires : goal.value_below-requires
value_below-requires c = record { digits = digits_of_number c.args.text.now (sym c.if-not-is_number.ensures); small = lit≤ tt }

pub returns : goal.returns
returns c = c.value_below.ensures ∙ number_is c.args.text.now (sym c.if-not-is_number.ensures) c.if-text-gt-MAX_DIGITS.false
