use Rattle.std.proofs.Common.{arith}
use Rattle.bx_tree.proofs.AtomsBelow.{first_before, first_whole}
use Rattle.bx_tree.proofs.below.first_part.Goals as goal

pub returns-then-byte-eq47 : goal.returns-then-byte-eq47
returns-then-byte-eq47 c = first_before c.args.text.now c.loop-at.at c.loop-at-test.true c.if-byte-eq47.true c.loop-at.invariant

pub returns : goal.returns
returns c = first_whole c.args.text.now c.loop-at.at (omega arith) c.loop-at.invariant
