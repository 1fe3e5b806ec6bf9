use Rattle.std.proofs.Common.{arith, length, ◌<◌}
use Rattle.bx_tree.proofs.HeaderParts.{length_with, range_from_digits}
use Rattle.bx_tree.proofs.header.is_length.Goals as goal

pub returns : goal.returns
returns c =
    let some : 0 < length c.args.text.now = grind arith in (
      λ t. length_with c.args.text.now some c.if-text-eq48.false (c.has_digits.ensures.0 t),
      λ h. c.has_digits.ensures.1 (range_from_digits c.args.text.now h.digits),
    )
