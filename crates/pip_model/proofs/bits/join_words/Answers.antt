use Rattle.std.proofs.Common.{◌≤◌, arith, length}
use Rattle.pip_model.proofs.BitSets.{joined_all}
use Rattle.pip_model.proofs.bits.join_words.Goals as goal

pub returns : goal.returns
returns c =
    let all : length c.args.other.now ≤ c.words.place = omega (arith, c.words-test.false) in
    joined_all c.args.row.now c.args.other.now c.words.row c.words.place all c.words.invariant
