-- What a board keeps once its parts were changed by a call.
use Rattle.std.proofs.Common.{◌≡◌, ℕ, ◌+◌, true, List, [], ◌∷◌, ◌++◌, set, refl, ap, sym, ◌∙◌, subst}
use Rattle.bx_tree.specs.Trees.{Files}
use Rattle.pip_model_types.specs.Makers.{IsPipList}
use Rattle.pip_model.specs.Plans.{PlanData}
use Rattle.sched_core.specs.Table.{CoreState, allows, are_settled, next_state, pip_of, state_after_event, state_at}
use Rattle.sched_core.specs.declared.event.Event.{Event}
use Rattle.sched_board_slots.specs.Slots.{FitsState, slot_at}
use Rattle.sched_board_slots.specs.declared.held.Held.{Held}
use Rattle.sched_board.specs.Board.{BoardData, KeepsBoard, board_of}
use Rattle.sched_board.proofs.Keeping.{keeps, keeps_slots}

-- one board with one set of totals, written in two ways
pub same_keeps : (b b' : BoardData) (events events' marks marks' room room' : ℕ) → b ≡ b' → events ≡ events' → marks ≡ marks' → room ≡ room'
    → KeepsBoard b events marks room → KeepsBoard b' events' marks' room'
same_keeps b b' events events' marks marks' room room' eb ee em er k =
    subst (λ (n : ℕ). KeepsBoard b' events' marks' n) er
    (subst (λ (n : ℕ). KeepsBoard b' events' n room) em
    (subst (λ (n : ℕ). KeepsBoard b' n marks room) ee
    (subst (λ (x : BoardData). KeepsBoard x events marks room) eb k)))

pub same_board : (plan : PlanData) (tree : Files) (core core' : CoreState) (history history' : List Event) (slots slots' : List Held) → core ≡ core'
    → history ≡ history' → slots ≡ slots' → board_of plan tree core history slots ≡ board_of plan tree core' history' slots'
same_board plan tree core core' history history' slots slots' ec eh es =
    ap (λ (c : CoreState). board_of plan tree c history slots) ec
    ∙ ap (λ (h : List Event). board_of plan tree core' h slots) eh
    ∙ ap (λ (s : List Held). board_of plan tree core' history' s) es

-- an event that fills a slot
pub filled_keeps : (plan : PlanData) (tree : Files) (core core' : CoreState) (history history' : List Event) (slots slots' : List Held)
    (events events' marks room room' : ℕ) (e : Event) (h : Held) → IsPipList plan.pips → KeepsBoard (board_of plan tree core history slots) events marks room
    → allows core e ≡ true → FitsState plan tree slots (pip_of e) (state_after_event (state_at core.states (pip_of e)) e) h
    → core' ≡ next_state core e → history' ≡ history ++ e ∷ [] → slots' ≡ set slots (pip_of e) h → events' ≡ events + 1 → room' ≡ room
    → KeepsBoard (board_of plan tree core' history' slots') events' marks room'
filled_keeps plan tree core core' history history' slots slots' events events' marks room room' e h list k allowed fits ec eh es ee er =
    same_keeps (board_of plan tree (next_state core e) (history ++ e ∷ []) (set slots (pip_of e) h)) (board_of plan tree core' history' slots')
    (events + 1) events' marks marks room room'
    (same_board plan tree (next_state core e) core' (history ++ e ∷ []) history' (set slots (pip_of e) h) slots' (sym ec) (sym eh) (sym es)) (sym ee) refl (sym er)
    (keeps (board_of plan tree core history slots) events marks room e h list k allowed fits)

-- an event that leaves the slots
pub stepped_keeps : (plan : PlanData) (tree : Files) (core core' : CoreState) (history history' : List Event) (slots : List Held)
    (events events' marks room room' : ℕ) (e : Event) → IsPipList plan.pips → KeepsBoard (board_of plan tree core history slots) events marks room
    → allows core e ≡ true → FitsState plan tree slots (pip_of e) (state_after_event (state_at core.states (pip_of e)) e) (slot_at slots (pip_of e))
    → core' ≡ next_state core e → history' ≡ history ++ e ∷ [] → events' ≡ events + 1 → room' ≡ room
    → KeepsBoard (board_of plan tree core' history' slots) events' marks room'
stepped_keeps plan tree core core' history history' slots events events' marks room room' e list k allowed fits ec eh ee er =
    same_keeps (board_of plan tree (next_state core e) (history ++ e ∷ []) slots) (board_of plan tree core' history' slots)
    (events + 1) events' marks marks room room'
    (same_board plan tree (next_state core e) core' (history ++ e ∷ []) history' slots slots (sym ec) (sym eh) refl) (sym ee) refl (sym er)
    (keeps_slots (board_of plan tree core history slots) events marks room e list k allowed fits)

-- a mark where all pips are settled
pub marked_keeps : (b : BoardData) (events marks marks' room : ℕ) → KeepsBoard b events marks room → are_settled b.core.states ≡ true
    → KeepsBoard b events marks' room
marked_keeps b events marks marks' room k settled = record {
  board = k.board;
  counted = k.counted;
  marked = λ some. settled;
  room_left = k.room_left;
}
