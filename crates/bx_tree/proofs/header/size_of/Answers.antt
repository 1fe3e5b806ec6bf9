use Rattle.bx_tree.specs.declared.limits.TheConstants.{MAX_FILE_BYTES}
use Rattle.std.proofs.Common.{arith, ◌+◌, ◌*◌, ◌-◌, get_or}
use Rattle.bx_tree.proofs.HeaderParts.{at_least, value_more, value_over}
use Rattle.bx_tree.proofs.header.size_of.Goals as goal

pub overflow_sub-size : goal.overflow_sub-size
overflow_sub-size c = at_least c.args.digits.now c.loop-digit.digit-index c.requires (omega arith)

pub returns-then-size-gt-MAX_FILE_BYTES : goal.returns-then-size-gt-MAX_FILE_BYTES
returns-then-size-gt-MAX_FILE_BYTES c =
    let n = 10 * c.loop-digit.size + (get_or c.args.digits.now c.loop-digit.digit-index 0 - 48) in
    value_over c.args.digits.now (c.loop-digit.digit-index + 1) n MAX_FILE_BYTES
    (value_more c.args.digits.now c.loop-digit.digit-index c.loop-digit.size c.requires (omega arith) c.loop-digit.invariant.0)
    c.if-size-gt-MAX_FILE_BYTES.true

pub loop-digit-preserved : goal.loop-digit-preserved
loop-digit-preserved c =
    (value_more c.args.digits.now c.loop-digit.digit-index c.loop-digit.size c.requires (omega arith) c.loop-digit.invariant.0, omega arith)
