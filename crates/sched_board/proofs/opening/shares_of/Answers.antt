use Rattle.std.proofs.Common.{◌≡◌, ◌+◌, [], ◌∷◌, ◌++◌, length, map, ap, sym, ◌∙◌, arith, length-append}
use Rattle.std.specs.List.{range_with_len}
use Rattle.std.proofs.lemmas.List.Elements.{All-pop}
use Rattle.std.proofs.lemmas.List.FromFn.{map-range_with_len_more}
use Rattle.sched_board.specs.Board.{ShareData, new_share}
use Rattle.sched_board.proofs.opening.shares_of.Goals as goal

pub workers-preserved : goal.workers-preserved
workers-preserved g c =
    let w = c.workers.worker in
    record {
      events_left = omega (arith, c.workers.invariant.events_left, c.in-Some.ensures.len, c.workers.event_parts.ok.0, c.pop.new.self.ok.0);
      marks_left = omega (arith, c.workers.invariant.marks_left, c.in-Some-pop.ensures.len, c.workers.mark_parts.ok.0, c.pop-in-workers.new.self.ok.0);
      events = (All-pop (λ s. (s.parts ≡ 1) × (s.amount ≡ 0)) c.workers.event_parts.items c.pop.new.self.items c.pop.result c.pop.ensures.items c.workers.invariant.events).0;
      marks = (All-pop (λ s. (s.parts ≡ 1) × (s.amount ≡ 0)) c.workers.mark_parts.items c.pop-in-workers.new.self.items c.pop-in-workers.result c.pop-in-workers.ensures.items
          c.workers.invariant.marks).0;
      shares =
          c.in_ok-push.ensures.items ∙ ap (λ xs. xs ++ c.new.result ∷ []) c.workers.invariant.shares
          ∙ ap (λ (s : ShareData). map new_share (range_with_len 0 w) ++ s ∷ []) c.new.ensures
          ∙ sym (map-range_with_len_more new_share 0 w w (omega arith));
    }
