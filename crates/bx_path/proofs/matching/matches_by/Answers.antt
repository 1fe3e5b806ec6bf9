use Rattle.std.proofs.Common.{◌≡◌, ◌+◌, ◌-◌, drop, arith}
use Rattle.bx_path.proofs.RowsMatch.{longer_name}
use Rattle.bx_path.proofs.matching.matches_by.Goals as goal

pub name-preserved : goal.name-preserved
name-preserved c =
    let left = c.name.left in
    let next : left ≡ left - 1 + 1 = omega arith in (
      omega (arith, c.name.invariant.0),
      longer_name c.args.pattern.now c.args.name.now c.add_byte.new.row left (left - 1) next c.name.invariant.0
          (c.add_byte.ensures (drop left c.args.name.now) c.name.invariant.1),
    )
