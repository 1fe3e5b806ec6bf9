use Rattle.std.proofs.Common.{◌≤◌, drop, length}
use Rattle.dscript_eval_frames.specs.Placed.{KeepPlaces}
use Rattle.dscript_eval_frames.proofs.captured.places_of.Given as goal

abbrev pub invariant-locals : goal.invariant-locals
invariant-locals l = record {
  within : l.place ≤ length l.locals;
  kept : KeepPlaces l.places l.place (drop l.place l.locals);
}

abbrev pub decreases-locals : goal.decreases-locals
decreases-locals l = l.place
