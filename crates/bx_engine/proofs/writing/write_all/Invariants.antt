use Rattle.std.proofs.Common.{◌≡◌, ◌++◌, ℕ, List, [], length}
use Rattle.bx_engine.specs.Known.{Appends}
use Rattle.bx_engine.proofs.writing.write_all.Given as goal

abbrev pub invariant-pieces : goal.invariant-pieces
invariant-pieces g l = record {
  prefix : (prefix : List ℕ) × (l.bytes ≡ prefix ++ l.rest) × Appends (g.O.Sink.taken l.fn.out) (g.O.Sink.taken l.out) prefix;
  untouched : l.bytes ≡ [] → l.out ≡ l.fn.out;
  same : g.O.Sink.faults l.out ≡ g.O.Sink.faults l.fn.out;
}

abbrev pub decreases-pieces : goal.decreases-pieces
decreases-pieces g l = length l.rest
