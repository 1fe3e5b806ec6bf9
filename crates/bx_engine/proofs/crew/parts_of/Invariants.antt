-- The parts that are left, and those so far.
use Rattle.std.proofs.Common.{◌≡◌, ◌+◌, length}
use Rattle.std.specs.Prelude.{All}
use Rattle.bx_engine.proofs.crew.parts_of.Given as goal

abbrev pub invariant-parts : goal.invariant-parts
invariant-parts g l = record {
  left : l.whole.parts + l.counter ≡ l.workers;
  nothing : l.whole.amount ≡ 0;
  size : length l.parts.items ≡ l.counter;
  each : All (λ s. (s.parts ≡ 1) × (s.amount ≡ 0)) l.parts.items;
}
