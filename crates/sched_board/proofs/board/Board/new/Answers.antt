use Rattle.std.proofs.Common.{◌≡◌, ℕ, ◌+◌, ◌*◌, ◌≤◌, List, [], length, replicate, refl, ap, sym, ◌∙◌, subst, arith}
use Rattle.std.specs.Arc.{arc_value}
use Rattle.std.specs.Vec.{vec_capacity}
use Rattle.pip_model.specs.Plans.{PlanData}
use Rattle.sched_core.specs.Legal.{initial_state}
use Rattle.sched_core.specs.declared.graph.Node.{Node}
use Rattle.sched_board_slots.specs.Graphs.{IsGraphOf}
use Rattle.sched_board_slots.specs.declared.held.Held.TheVariants as held
use Rattle.sched_board.specs.Board.{KeepsBoard, board_of}
use Rattle.sched_board.proofs.Beginning.{starts}
use Rattle.sched_board.proofs.Closings.{same_board, same_keeps}
use Rattle.sched_board.proofs.board.Board.new.Goals as goal

pub invariant_of-board : goal.invariant_of-board
invariant_of-board g c =
    let plan = arc_value c.args.plan in
    let tree = arc_value c.args.sources in
    let nodes : List Node = c.in_ok-graph.graph in
    let room = vec_capacity c.in_ok-history.history in
    let graph : IsGraphOf plan nodes = subst (λ (p : PlanData). IsGraphOf p nodes) c.deref.ensures c.in_ok-graph.ensures in
    let size : length c.nodes-pips.result.now ≡ length nodes = ap length c.nodes-pips.ensures.nodes in
    let enough : 4 * length nodes + 3 * c.args.workers ≤ room = omega (arith, size, c.in_ok-history.ensures.capacity) in
    same_keeps (board_of plan tree (initial_state nodes c.args.workers) [] (replicate (length nodes) held.Empty))
    (board_of plan tree c.in_ok-core.core c.in_ok-history.history.items c.in_ok-slots.slots.items)
    0 c.args.blank.events.total 0 c.args.blank.marks.total room room
    (same_board plan tree (initial_state nodes c.args.workers) c.in_ok-core.core [] c.in_ok-history.history.items
    (replicate (length nodes) held.Empty) c.in_ok-slots.slots.items (sym c.in_ok-core.ensures) (sym c.in_ok-history.ensures.items)
    (ap (λ (n : ℕ). replicate n held.Empty) (sym size) ∙ sym c.in_ok-slots.ensures))
    (sym c.requires.totals.0) (sym c.requires.totals.1) refl (starts plan tree nodes c.args.workers room graph enough)

pub returns-clause-board : goal.returns-clause-board
returns-clause-board g c = (invariant_of-board g c).board
