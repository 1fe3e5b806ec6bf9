-- Shares of which one is marked, and the slots of pips that are all settled.
use Rattle.std.proofs.Common.{◌≡◌, ◌≢◌, ℕ, zero, suc, ◌+◌, ◌<◌, Bool, true, false, List, [], ◌∷◌, length, get_or, Some, ap, sym, ◌∙◌, subst, inl, inr, arith}
use Rattle.std.specs.Prelude.{All, Any}
use Rattle.std.specs.List.{sum_by}
use Rattle.std.proofs.lemmas.Bool.{both_ways, cases_Bool}
use Rattle.std.proofs.lemmas.List.Folds.{list_all_at}
use Rattle.std.proofs.lemmas.List.Sums.{sum_by-cons}
use Rattle.std.proofs.lemmas.Option.{same_Some, slice_get-get_or}
use Rattle.bx_tree.specs.Trees.{Files}
use Rattle.pip_model.specs.Plans.{PlanData}
use Rattle.sched_core.specs.Sound.{IsSound}
use Rattle.sched_core.specs.States.{is_settled}
use Rattle.sched_core.specs.Table.{are_settled, state_at}
use Rattle.sched_core.specs.declared.state.PipState.{PipState}
use Rattle.sched_core.specs.declared.state.PipState.TheVariants as state
use Rattle.sched_board_slots.specs.Slots.{FitsState, HoldsOwn, slot_at}
use Rattle.sched_board_slots.specs.declared.held.Held.{Held}
use Rattle.sched_board_slots.specs.declared.held.Held.TheVariants as held
use Rattle.sched_board.specs.Board.{BoardData, IsBoard, ShareData, mark_amount}
use Rattle.sched_board.proofs.Keeping.{sound_board}

-- ## Marks

abbrev marks : ShareData → ℕ
marks share = mark_amount share.marked

pub some_mark : (shares : List ShareData) → Any (λ (share : ShareData). share.marked ≡ true) shares → 0 < sum_by (λ (share : ShareData). mark_amount share.marked) shares
some_mark [] (k, share, l, at, is) = absurd (omega (arith, l))
some_mark (s ∷ ss) (zero, share, l, at, is) =
    let one : mark_amount s.marked ≡ 1 = ap (λ (x : ShareData). mark_amount x.marked) at ∙ ap mark_amount is in
    omega (arith, one, sum_by-cons marks s ss)
some_mark (s ∷ ss) (suc k, share, l, at, is) =
    let rest : 0 < sum_by marks ss = some_mark ss (k, share, omega (arith, l), at, is) in
    omega (arith, rest, sum_by-cons marks s ss)

-- ## Slots of settled pips

settled_filled : (plan : PlanData) (tree : Files) (slots : List Held) (p : ℕ) (s : PipState) (h : Held) → is_settled s ≡ true → FitsState plan tree slots p s h
    → h ≡ held.Empty → ⊥
settled_filled plan tree slots p state.Waiting h e f is = absurd cc
settled_filled plan tree slots p (state.Held w) h e f is = absurd cc
settled_filled plan tree slots p (state.Looked w hit) h e f is = absurd cc
settled_filled plan tree slots p (state.Published w good) h e f is = absurd cc
settled_filled plan tree slots p (state.Done good) h e f is = subst (λ (x : Held). HoldsOwn plan tree slots p good x) is f
settled_filled plan tree slots p state.Skipped h e f is = let same : held.Empty ≡ held.Skipped = sym is ∙ f in absurd cc

pub none_empty : (b : BoardData) → IsBoard b → are_settled b.core.states ≡ true → All (λ (slot : Held). slot ≢ held.Empty) b.slots
none_empty b is all k d l empty =
    let sound : IsSound b.core = sound_board b is in
    let there : k < length b.core.states = omega (arith, l, is.slots_size, is.graph.size, sound.same_size) in
    let read : get_or b.slots k d ≡ slot_at b.slots k =
    same_Some (get_or b.slots k d) (slot_at b.slots k) (sym (slice_get-get_or b.slots k d l) ∙ slice_get-get_or b.slots k held.Skipped l) in
    elim (cases_Bool (is_settled (state_at b.core.states k))) [
      | inl settled ↦ settled_filled b.plan b.sources b.slots k (state_at b.core.states k) (slot_at b.slots k) settled (is.fit k) (sym read ∙ empty)
      | inr other ↦ both_ways (are_settled b.core.states) (list_all_at is_settled b.core.states k state.Skipped there other) all
    ]
