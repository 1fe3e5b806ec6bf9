-- The parts that are left, and the shares so far.
use Rattle.std.proofs.Common.{◌≡◌, ◌+◌, length, map}
use Rattle.std.specs.Prelude.{All}
use Rattle.std.specs.List.{range_with_len}
use Rattle.sched_board.specs.Board.{new_share}
use Rattle.sched_board.proofs.opening.shares_of.Given as goal

abbrev pub invariant-workers : goal.invariant-workers
invariant-workers g l = record {
  events_left : length l.event_parts.items + l.worker ≡ l.workers;
  marks_left : length l.mark_parts.items + l.worker ≡ l.workers;
  events : All (λ s. (s.parts ≡ 1) × (s.amount ≡ 0)) l.event_parts.items;
  marks : All (λ s. (s.parts ≡ 1) × (s.amount ≡ 0)) l.mark_parts.items;
  shares : l.shares.items ≡ map new_share (range_with_len 0 l.worker);
}
