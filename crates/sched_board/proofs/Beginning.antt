-- What a new board keeps.
use Rattle.std.proofs.Common.{◌≡◌, ℕ, ◌+◌, ◌*◌, ◌<◌, ◌≤◌, false, List, [], ◌∷◌, length, replicate, refl, ap, sym, ◌∙◌, subst, inl, inr, arith}
use Rattle.std.proofs.lemmas.Bool.{cases_lt}
use Rattle.std.proofs.lemmas.List.{get_or-replicate, get_or_past, length-replicate}
use Rattle.bx_tree.specs.Trees.{Files}
use Rattle.pip_model.specs.Plans.{PlanData}
use Rattle.sched_core.specs.Legal.{all_waiting, initial_state}
use Rattle.sched_core.specs.Table.{state_at}
use Rattle.sched_core.specs.declared.graph.Node.{Node}
use Rattle.sched_core.specs.declared.state.PipState.{PipState}
use Rattle.sched_core.specs.declared.state.PipState.TheVariants as state
use Rattle.sched_board_slots.specs.Graphs.{IsGraphOf}
use Rattle.sched_board_slots.specs.Slots.{AllFit, FitsState, slot_at}
use Rattle.sched_board_slots.specs.declared.held.Held.{Held}
use Rattle.sched_board_slots.specs.declared.held.Held.TheVariants as held
use Rattle.sched_board.specs.Board.{KeepsBoard, board_of}

abbrev no_slots : ℕ → List Held
no_slots n = replicate n held.Empty

fits_at_first : (plan : PlanData) (tree : Files) (n : ℕ) → AllFit plan tree (all_waiting n) (no_slots n)
fits_at_first plan tree n p = elim (cases_lt p n) [
  | inl l ↦
      let waits : state_at (all_waiting n) p ≡ state.Waiting = get_or-replicate n p state.Waiting state.Skipped l in
      subst (λ (s : PipState). FitsState plan tree (no_slots n) p s (slot_at (no_slots n) p)) (sym waits) (get_or-replicate n p held.Empty held.Skipped l)
  | inr past ↦
      let beyond : state_at (all_waiting n) p ≡ state.Skipped =
      get_or_past (all_waiting n) p state.Skipped (omega (arith, past, length-replicate n state.Waiting)) in
      subst (λ (s : PipState). FitsState plan tree (no_slots n) p s (slot_at (no_slots n) p)) (sym beyond)
      (get_or_past (no_slots n) p held.Skipped (omega (arith, past, length-replicate n held.Empty)))
]

pub starts : (plan : PlanData) (tree : Files) (nodes : List Node) (workers room : ℕ) → IsGraphOf plan nodes → 4 * length nodes + 3 * workers ≤ room
    → KeepsBoard (board_of plan tree (initial_state nodes workers) [] (replicate (length nodes) held.Empty)) 0 0 room
starts plan tree nodes workers room graph enough =
    let left : length (replicate workers false) ≡ workers = length-replicate workers false in
    record {
      board = record {
        graph = graph;
        legal = refl;
        core_is = ap (initial_state nodes) (sym left);
        slots_size = length-replicate (length nodes) held.Empty ∙ graph.size;
        fit = fits_at_first plan tree (length nodes);
      };
      counted = refl;
      marked = λ l. absurd (omega (arith, l));
      room_left = omega (arith, enough, left);
    }
