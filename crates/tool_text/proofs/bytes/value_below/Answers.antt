use Rattle.std.proofs.Common.{◌+◌, ◌*◌, ◌-◌, get_or, inl, arith}
use Rattle.tool_text.proofs.DigitValues.{value_more, value_above, none_above}
use Rattle.tool_text.proofs.bytes.value_below.Goals as goal

pub returns-then-value-limit : goal.returns-then-value-limit
returns-then-value-limit c =
    let n = 10 * c.digits.value + (get_or c.args.digits.now c.digits.byte-index 0 - 48) in
    none_above c.args.limit c.args.digits.now
    (value_above c.args.digits.now (c.digits.byte-index + 1) n c.args.limit
    (value_more c.args.digits.now c.digits.byte-index c.digits.value c.requires.digits (omega arith) c.digits.invariant.value_is)
    c.if-value-limit.true)

pub digits-preserved : goal.digits-preserved
digits-preserved c = record {
  value_is = value_more c.args.digits.now c.digits.byte-index c.digits.value c.requires.digits (omega arith) c.digits.invariant.value_is;
  below = inl (omega arith);
}
