use Rattle.std.proofs.Common.{◌-◌, ◌<◌, ◌≤◌, length, take}
use Rattle.graph_check_outputs.specs.Sharing.{HasOverlap}
use Rattle.graph_check_outputs.proofs.overlap.least_overlap.Given as goal

abbrev pub invariant-bounds : goal.invariant-bounds
invariant-bounds l = record {
  between : l.apart < l.overlapping;
  within : l.overlapping ≤ length l.pips;
  none : HasOverlap (take l.apart l.pips) → ⊥;
  some : HasOverlap (take l.overlapping l.pips);
}

abbrev pub decreases-bounds : goal.decreases-bounds
decreases-bounds l = l.overlapping - l.apart
