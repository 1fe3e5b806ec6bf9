use Rattle.std.proofs.Common.{◌≡◌, ◌<◌, true, ap, sym, ◌∙◌, subst, arith}
use Rattle.std.specs.Arc.{arc_value}
use Rattle.pip_model_types.specs.Makers.{IsPipList}
use Rattle.pip_model.specs.Plans.{PlanData}
use Rattle.sched_core.specs.Table.{are_settled}
use Rattle.sched_board_slots.specs.Closing.{HoldsOneThread}
use Rattle.sched_board.specs.Board.{BoardData, IsBoard, board_of}
use Rattle.sched_board.proofs.Keeping.{sound_board}
use Rattle.sched_board.proofs.Merged.{none_empty, some_mark}
use Rattle.sched_board.proofs.board.Board.finish.Goals as goal

pub returns-clause-marked : goal.returns-clause-marked
returns-clause-marked g c = λ some.
    let board : IsBoard c.args.self = subst IsBoard c.self.view_is c.self.invariant.board in
    let marks : 0 < c.self.inside.marks.total = omega (arith, some_mark c.args.shares.items some, c.audit_all.ensures.marked) in
    let settled : are_settled c.args.self.core.states ≡ true = ap (λ (b : BoardData). are_settled b.core.states) (sym c.self.view_is) ∙ c.self.invariant.marked marks in
    (settled, none_empty c.args.self board settled)

pub returns-clause-settled : goal.returns-clause-settled
returns-clause-settled g c = λ settled.
    let board : IsBoard c.args.self = subst IsBoard c.self.view_is c.self.invariant.board in
    record {
      core = c.args.self.core;
      graph = board.graph;
      sound = sound_board c.args.self board;
      size = board.slots_size;
      fit = board.fit;
      settled = settled;
    }

pub returns-clause-starts_after_inputs : goal.returns-clause-starts_after_inputs
returns-clause-starts_after_inputs g c = c.legal_events.ensures.starts_after_inputs c.args.self.core.nodes _

pub returns-clause-one_thread : goal.returns-clause-one_thread
returns-clause-one_thread g c =
    let board : IsBoard c.args.self = subst IsBoard c.self.view_is c.self.invariant.board in
    let plan : c.deref.result.now ≡ c.args.self.plan = c.deref.ensures ∙ ap (λ (b : BoardData). b.plan) c.self.view_is in
    let list : IsPipList c.args.self.plan.pips = subst (λ (p : PlanData). IsPipList p.pips) plan c.pips-pips.ensures.list in
    c.slots_follow_one_thread.ensures c.args.self.plan c.args.self.sources c.args.self.core c.args.self.slots list board.graph
    (sound_board c.args.self board) board.slots_size board.fit
