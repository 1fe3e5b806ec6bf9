-- An event that is allowed leaves a board what it keeps.
use Rattle.std.proofs.Common.{◌≡◌, ◌≢◌, ℕ, ◌+◌, ◌<◌, Bool, true, false, List, [], ◌∷◌, ◌++◌, length, set, refl, ap, sym, ◌∙◌, subst, inl, inr, arith, length-append, length-set}
use Rattle.std.proofs.lemmas.Bool.{both_ways, cases_Bool, cases_eq, cases_lt}
use Rattle.std.proofs.lemmas.List.{get_or-set_same, get_or-set_other, get_or_past, set-get_or}
use Rattle.std.proofs.lemmas.List.Folds.{list_all_at}
use Rattle.bx_tree.specs.Members.{Has}
use Rattle.bx_tree.specs.Trees.{Files}
use Rattle.bx_tree.proofs.Members.{passes_all}
use Rattle.pip_model_types.specs.Makers.{IsPipList}
use Rattle.pip_model.specs.Plans.{PlanData}
use Rattle.pip_view_inputs.specs.Results.{ByPip}
use Rattle.sched_core.specs.Laws.{FewEvents, reached}
use Rattle.sched_core.specs.Legal.{Legal, initial_state}
use Rattle.sched_core.specs.Sound.{IsSound}
use Rattle.sched_core.specs.States.{is_bad, is_begun, is_done_well, is_settled}
use Rattle.sched_core.specs.Table.{CoreState, allows, are_settled, left_after, next_state, node_inputs, pip_of, state_after_event, state_at}
use Rattle.sched_core.specs.declared.event.Event.{Event}
use Rattle.sched_core.specs.declared.event.Event.TheVariants as event
use Rattle.sched_core.specs.declared.state.PipState.{PipState}
use Rattle.sched_core.specs.declared.state.PipState.TheVariants as state
use Rattle.sched_core.proofs.EventLaws.{reaches_sound}
use Rattle.sched_core.proofs.Histories.{legal_push, state_after-append}
use Rattle.sched_core.proofs.Places.{state_at-other, state_at-same}
use Rattle.sched_core.proofs.SoundSteps.{steps_of}
use Rattle.sched_board_slots.specs.Graphs.{IsGraphOf}
use Rattle.sched_board_slots.specs.Slots.{AllFit, FitsState, HoldsOn, own_inputs, slot_at}
use Rattle.sched_board_slots.specs.declared.held.Held.{Held}
use Rattle.sched_board_slots.specs.declared.held.Held.TheVariants as held
use Rattle.sched_board_slots.proofs.Inputs.{input_below, inputs_kept}
use Rattle.sched_board.specs.Board.{BoardData, IsBoard, KeepsBoard, filled, stepped}

-- ## The core

pub left_size : (left : List Bool) (e : Event) → length (left_after left e) ≡ length left
left_size left (event.Start p w) = refl
left_size left (event.Looked p w hit) = refl
left_size left (event.Publish p w good) = refl
left_size left (event.Complete p w) = refl
left_size left (event.Skip p w) = refl
left_size left (event.Release p w) = length-set left w true

-- the state of a board is sound
pub sound_board : (b : BoardData) → IsBoard b → IsSound b.core
sound_board b is = subst IsSound (sym is.core_is) (reaches_sound b.core.nodes (length b.core.left) b.history is.legal)

next_legal : (b : BoardData) (e : Event) → IsBoard b → allows b.core e ≡ true → Legal b.core.nodes (length b.core.left) (b.history ++ e ∷ [])
next_legal b e is allowed =
    legal_push (initial_state b.core.nodes (length b.core.left)) b.history e is.legal (ap (λ s. allows s e) (sym is.core_is) ∙ allowed)

next_reached : (b : BoardData) (e : Event) → IsBoard b → next_state b.core e ≡ reached b.core.nodes (length b.core.left) (b.history ++ e ∷ [])
next_reached b e is =
    ap (λ s. next_state s e) is.core_is
    ∙ sym (state_after-append (initial_state b.core.nodes (length b.core.left)) b.history (e ∷ []))

-- ## The slots

fits_kept : (plan : PlanData) (tree : Files) (slots others : List Held) (i : ℕ) (s : PipState) (h : Held)
    → (is_begun s ≡ true → own_inputs plan others i ≡ own_inputs plan slots i) → FitsState plan tree slots i s h → FitsState plan tree others i s h
fits_kept plan tree slots others i state.Waiting h same f = f
fits_kept plan tree slots others i (state.Held w) h same f = f
fits_kept plan tree slots others i (state.Looked w hit) h same f = f
fits_kept plan tree slots others i (state.Published w good) h same f = subst (λ (ins : ByPip). HoldsOn plan tree ins i good h) (sym (same refl)) f
fits_kept plan tree slots others i (state.Done good) h same f = subst (λ (ins : ByPip). HoldsOn plan tree ins i good h) (sym (same refl)) f
fits_kept plan tree slots others i state.Skipped h same f = f

begun_there : (states : List PipState) (p : ℕ) → is_begun (state_at states p) ≡ true → p < length states
begun_there states p e = elim (cases_lt p (length states)) [
  | inl l ↦ l
  | inr past ↦ absurd (both_ways (is_begun (state_at states p)) (ap is_begun (get_or_past states p state.Skipped past)) e)
]

module _ (plan : PlanData) (tree : Files) (core : CoreState) (slots : List Held) (list : IsPipList plan.pips) (graph : IsGraphOf plan core.nodes)
    (sound : IsSound core) (size : length slots ≡ length plan.pips) (fit : AllFit plan tree core.states slots) (q : ℕ) (x : PipState) (h : Held)
    (there : q < length core.states) (open_bad : is_done_well (state_at core.states q) ≡ false) (new : FitsState plan tree slots q x h) where
  in_plan : (p : ℕ) → p < length core.states → p < length plan.pips
  in_plan p l = omega (arith, l, sound.same_size, graph.size)

  -- a pip is given the same where the slot that is written is none of its inputs
  same_given : (p : ℕ) → p < length core.states → (Has (node_inputs core.nodes p) q → ⊥) → own_inputs plan (set slots q h) p ≡ own_inputs plan slots p
  same_given p l other = inputs_kept plan core.nodes list graph slots p q h (in_plan p l) size other (length-set slots q h)

  not_own : Has (node_inputs core.nodes q) q → ⊥
  not_own k = let less = input_below plan core.nodes list graph q q (in_plan q there) k in omega (arith, less)

  -- a pip that was started has only inputs that completed
  not_input : (p : ℕ) → is_begun (state_at core.states p) ≡ true → Has (node_inputs core.nodes p) q → ⊥
  not_input p begun k =
      both_ways (is_done_well (state_at core.states q)) open_bad
      (passes_all (λ j. is_done_well (state_at core.states j)) (node_inputs core.nodes p) q (sound.begun p begun) k)

  fit_here : FitsState plan tree (set slots q h) q (state_at (set core.states q x) q) (slot_at (set slots q h) q)
  fit_here =
      let at : state_at (set core.states q x) q ≡ x = state_at-same core.states q x there in
      let slot : slot_at (set slots q h) q ≡ h = get_or-set_same slots q h held.Skipped (omega (arith, there, size, sound.same_size, graph.size)) in
      subst (λ (s : PipState). FitsState plan tree (set slots q h) q s (slot_at (set slots q h) q)) (sym at)
      (subst (λ (y : Held). FitsState plan tree (set slots q h) q x y) (sym slot)
      (fits_kept plan tree slots (set slots q h) q x h (λ begun. same_given q there not_own) new))

  fit_other : (p : ℕ) → p ≢ q → FitsState plan tree (set slots q h) p (state_at (set core.states q x) p) (slot_at (set slots q h) p)
  fit_other p other =
      let at : state_at (set core.states q x) p ≡ state_at core.states p = state_at-other core.states q p x other in
      let slot : slot_at (set slots q h) p ≡ slot_at slots p = get_or-set_other slots q p h held.Skipped other in
      subst (λ (s : PipState). FitsState plan tree (set slots q h) p s (slot_at (set slots q h) p)) (sym at)
      (subst (λ (y : Held). FitsState plan tree (set slots q h) p (state_at core.states p) y) (sym slot)
      (fits_kept plan tree slots (set slots q h) p (state_at core.states p) (slot_at slots p)
      (λ begun. same_given p (begun_there core.states p begun) (not_input p begun)) (fit p)))

  pub all_fit : AllFit plan tree (set core.states q x) (set slots q h)
  all_fit p = elim (cases_eq p q) [
    | inl e ↦ subst (λ (k : ℕ). FitsState plan tree (set slots q h) k (state_at (set core.states q x) k) (slot_at (set slots q h) k)) (sym e) fit_here
    | inr other ↦ fit_other p other
  ]

-- ## The board

-- nothing happens to a pip where all are settled
settled_is : (s : PipState) → is_settled s ≡ true → is_done_well s ≡ false → is_bad s ≡ false → ⊥
settled_is state.Waiting h g b = absurd cc
settled_is (state.Held w) h g b = absurd cc
settled_is (state.Looked w hit) h g b = absurd cc
settled_is (state.Published w good) h g b = absurd cc
settled_is (state.Done true) h g b = absurd cc
settled_is (state.Done false) h g b = absurd cc
settled_is state.Skipped h g b = absurd cc

never_settled : (states : List PipState) (q : ℕ) → q < length states → is_done_well (state_at states q) ≡ false → is_bad (state_at states q) ≡ false
    → are_settled states ≡ true → ⊥
never_settled states q there good bad all = elim (cases_Bool (is_settled (state_at states q))) [
  | inl e ↦ settled_is (state_at states q) e good bad
  | inr e ↦ both_ways (are_settled states) (list_all_at is_settled states q state.Skipped there e) all
]

pub keeps : (b : BoardData) (events marks room : ℕ) (e : Event) (h : Held) → IsPipList b.plan.pips → KeepsBoard b events marks room → allows b.core e ≡ true
    → FitsState b.plan b.sources b.slots (pip_of e) (state_after_event (state_at b.core.states (pip_of e)) e) h
    → KeepsBoard (filled b e h) (events + 1) marks room
keeps b events marks room e h list k allowed new =
    let sound : IsSound b.core = sound_board b k.board in
    let steps = steps_of b.core e sound allowed in
    let q : ℕ = pip_of e in
    let x : PipState = state_after_event (state_at b.core.states q) e in
    let left : length (left_after b.core.left e) ≡ length b.core.left = left_size b.core.left e in
    record {
      board = record {
        graph = k.board.graph;
        legal = subst (λ (n : ℕ). Legal b.core.nodes n (b.history ++ e ∷ [])) (sym left) (next_legal b e k.board allowed);
        core_is = next_reached b e k.board ∙ ap (λ (n : ℕ). reached b.core.nodes n (b.history ++ e ∷ [])) (sym left);
        slots_size = length-set b.slots q h ∙ k.board.slots_size;
        fit = all_fit b.plan b.sources b.core b.slots list k.board.graph sound k.board.slots_size k.board.fit q x h steps.there steps.still_open.not_good new;
      };
      counted = length-append b.history (e ∷ []) ∙ ap (λ (n : ℕ). n + 1) k.counted;
      marked = λ some. absurd (never_settled b.core.states q steps.there steps.still_open.not_good steps.still_open.not_bad (k.marked some));
      room_left = omega (arith, k.room_left, left);
    }

-- an event that leaves the slots writes its own slot again
pub stepped_is : (b : BoardData) (e : Event) → filled b e (slot_at b.slots (pip_of e)) ≡ stepped b e
stepped_is b e = ap (λ (slots : List Held). record (stepped b e) { slots = slots }) (set-get_or b.slots (pip_of e) held.Skipped)

pub keeps_slots : (b : BoardData) (events marks room : ℕ) (e : Event) → IsPipList b.plan.pips → KeepsBoard b events marks room → allows b.core e ≡ true
    → FitsState b.plan b.sources b.slots (pip_of e) (state_after_event (state_at b.core.states (pip_of e)) e) (slot_at b.slots (pip_of e))
    → KeepsBoard (stepped b e) (events + 1) marks room
keeps_slots b events marks room e list k allowed new =
    subst (λ (c : BoardData). KeepsBoard c (events + 1) marks room) (stepped_is b e)
    (keeps b events marks room e (slot_at b.slots (pip_of e)) list k allowed new)

-- there is room for the event
pub has_room : (b : BoardData) (events marks room : ℕ) (e : Event) → FewEvents b.core.nodes (length b.core.left) → KeepsBoard b events marks room
    → allows b.core e ≡ true → length b.history < room
has_room b events marks room e few k allowed =
    let bound = few (b.history ++ e ∷ []) (next_legal b e k.board allowed) in
    omega (arith, bound, length-append b.history (e ∷ []), k.room_left)

pub is_in : (b : BoardData) (e : Event) → IsBoard b → allows b.core e ≡ true → pip_of e < length b.slots
is_in b e is allowed =
    let sound : IsSound b.core = sound_board b is in
    let steps = steps_of b.core e sound allowed in
    omega (arith, steps.there, sound.same_size, is.graph.size, is.slots_size)
