use Rattle.std.proofs.Common.{◌≡◌, ◌<◌, true, length, ap, sym, ◌∙◌, subst, arith}
use Rattle.std.specs.Arc.{arc_value}
use Rattle.std.specs.Vec.{vec_capacity}
use Rattle.pip_model_types.specs.Makers.{IsPipList}
use Rattle.pip_model.specs.Plans.{PlanData}
use Rattle.sched_core.specs.Table.{allows, pip_of, state_after_event, state_at}
use Rattle.sched_board_slots.specs.Slots.{FitsState, slot_at}
use Rattle.sched_board.specs.Board.{BoardData, board_of}
use Rattle.sched_board.proofs.Closings.{stepped_keeps}
use Rattle.sched_board.proofs.Keeping.{has_room}
use Rattle.sched_board.proofs.board.Board.append.Goals as goal

pub push_reserved-requires : goal.push_reserved-requires
push_reserved-requires g c =
    let b : BoardData = board_of (arc_value c.self.inside.plan) (arc_value c.self.inside.sources) c.self.inside.core c.self.inside.history.items c.self.inside.slots.items in
    let allowed : allows b.core c.args.event ≡ true = ap (λ (x : BoardData). allows x.core c.args.event) c.self.view_is ∙ c.requires.allowed in
    let room : length c.self.inside.history.items < vec_capacity c.self.inside.history =
    has_room b c.self.inside.events.total c.self.inside.marks.total (vec_capacity c.self.inside.history) c.args.event
    (c.legal_events.ensures.few b.core.nodes (length b.core.left)) c.self.invariant allowed in
    omega (arith, room, c.self.inside.history.ok.0)

pub invariant_of-self : goal.invariant_of-self
invariant_of-self g c =
    let i = c.self.inside in
    let e = c.args.event in
    let list : IsPipList (arc_value i.plan).pips = subst (λ (p : PlanData). IsPipList p.pips) c.deref.ensures c.pips-pips.ensures.list in
    let allowed : allows i.core e ≡ true = ap (λ (x : BoardData). allows x.core e) c.self.view_is ∙ c.requires.allowed in
    let fits : FitsState (arc_value i.plan) (arc_value i.sources) i.slots.items (pip_of e) (state_after_event (state_at i.core.states (pip_of e)) e) (slot_at i.slots.items (pip_of e)) =
    subst (λ (x : BoardData). FitsState x.plan x.sources x.slots (pip_of e) (state_after_event (state_at x.core.states (pip_of e)) e) (slot_at x.slots (pip_of e)))
    (sym c.self.view_is) c.requires.fits in
    stepped_keeps (arc_value i.plan) (arc_value i.sources) i.core c.apply.new.core i.history.items c.push_reserved.new.self.items i.slots.items
    i.events.total c.add.new.self.total i.marks.total (vec_capacity i.history) (vec_capacity c.push_reserved.new.self) e list c.self.invariant allowed fits
    c.apply.ensures c.push_reserved.ensures.items c.add.ensures.total c.push_reserved.ensures.capacity
