use Rattle.std.proofs.Common.{◌/◌, ◌<◌, arith, length, refl}
use Rattle.pip_model.proofs.BitSets.{added_bit}
use Rattle.pip_model.proofs.bits.add_bit.Goals as goal

pub returns : goal.returns
returns c = λ k.
    let within : c.args.number / 64 < length c.args.row.now = omega arith in
    added_bit c.args.row.now c.args.number _ within refl k
