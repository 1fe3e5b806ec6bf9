use Rattle.std.proofs.Common.{◌≡◌, drop, map}
use Rattle.violations.specs.Slots.{slot_files}
use Rattle.violations.specs.DoubleWrites.{least_clash}
use Rattle.violations.proofs.clashes.least_clash.Given as goal

abbrev pub invariant-pips : goal.invariant-pips
invariant-pips l =
    least_clash l.path l.number (drop l.number l.pips) (map slot_files (drop l.number l.slots))
    ≡ least_clash l.path 0 l.pips (map slot_files l.slots)
