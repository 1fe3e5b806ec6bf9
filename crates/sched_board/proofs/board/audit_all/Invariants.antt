-- What was merged, and what is left, are all shares.
use Rattle.std.proofs.Common.{◌≡◌, ◌+◌, length}
use Rattle.std.specs.List.{sum_by}
use Rattle.sched_board.specs.Board.{ShareData, mark_amount}
use Rattle.sched_board.proofs.board.audit_all.Given as goal

abbrev pub invariant-loop-share : goal.invariant-loop-share
invariant-loop-share g l = record {
  parts : l.mine.parts + length l.shares.items ≡ l.initial.mine.parts + length l.initial.shares.items;
  counted : l.mine.amount + sum_by (λ (share : ShareData). share.events) l.shares.items
      ≡ l.initial.mine.amount + sum_by (λ (share : ShareData). share.events) l.initial.shares.items;
  marked : l.mark.amount + sum_by (λ (share : ShareData). mark_amount share.marked) l.shares.items
      ≡ l.initial.mark.amount + sum_by (λ (share : ShareData). mark_amount share.marked) l.initial.shares.items;
}

abbrev pub decreases-loop-share : goal.decreases-loop-share
decreases-loop-share g l = length l.shares.items
