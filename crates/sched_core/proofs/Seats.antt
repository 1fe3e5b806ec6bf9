-- The pip that a worker holds, found in the list of all states.
use Rattle.std.proofs.Common.{◌≡◌, ℕ, ◌<◌, ◌==◌, true, false, cond, ltb, Option, Some, None, is_none, is_some, List, [], ◌∷◌, length, set, zero, suc, refl, ap, sym, ◌∙◌, arith, inl, inr, length-set}
use Rattle.std.specs.List.{list_all, position_or_len}
use Rattle.std.proofs.lemmas.Bool.{cases_Bool, cases_lt, eq-eqb, false_from_ne_true, lt-ltb, le-ltb}
use Rattle.std.proofs.lemmas.List.{get_or_past}
use Rattle.std.proofs.lemmas.List.Sums.{position_or_len_is, fails_before_first}
use Rattle.std.proofs.lemmas.List.Folds.{list_all_at, position_or_len-set}
use Rattle.std.proofs.lemmas.List.Quantifiers.{position-Some}
use Rattle.sched_core.specs.Indexes.{AreSeats, seat_at}
use Rattle.sched_core.specs.States.{holder, holds}
use Rattle.sched_core.specs.Table.{busy_of, is_idle, state_at}
use Rattle.sched_core.specs.declared.state.PipState.{PipState}
use Rattle.sched_core.specs.declared.state.PipState.TheVariants as state

pub busy_some : (w p : ℕ) (states : List PipState) → p < length states → holds w (state_at states p) ≡ true
    → ((k : ℕ) → holds w (state_at states k) ≡ true → k ≡ p) → busy_of w states ≡ Some p
busy_some w p states there here alone =
    let n : position_or_len (holds w) states ≡ p =
    position_or_len_is (holds w) states p state.Skipped (omega (arith, there))
    (λ k l. false_from_ne_true (holds w (state_at states k)) (λ e. omega (arith, alone k e, l)))
    (λ l. here) in
    ap (λ m. cond (ltb m (length states)) (Some m) None) n
    ∙ ap (λ b. cond b (Some p) None) (lt-ltb p (length states) there)

pub busy_nobody : (w : ℕ) (states : List PipState) → ((k : ℕ) → holds w (state_at states k) ≡ false) → busy_of w states ≡ None
busy_nobody w states none =
    let n : position_or_len (holds w) states ≡ length states =
    position_or_len_is (holds w) states (length states) state.Skipped (omega arith) (λ k l. none k) (λ l. absurd (omega (arith, l))) in
    ap (λ m. cond (ltb m (length states)) (Some m) None) n
    ∙ ap (λ b. cond b (Some (length states)) None) (le-ltb (length states) (length states) (omega arith))

pub busy_held : (w p : ℕ) (states : List PipState) → busy_of w states ≡ Some p → holds w (state_at states p) ≡ true
busy_held w p states h = (position-Some (holds w) states p state.Skipped h).1

pub busy_there : (w p : ℕ) (states : List PipState) → busy_of w states ≡ Some p → p < length states
busy_there w p states h = (position-Some (holds w) states p state.Skipped h).0

pub busy_none : (w : ℕ) (states : List PipState) → busy_of w states ≡ None → (k : ℕ) → holds w (state_at states k) ≡ false
busy_none w states h k = elim (cases_lt k (position_or_len (holds w) states)) [
  | inl l ↦ fails_before_first (holds w) states k state.Skipped l
  | inr past ↦ elim (cases_lt (position_or_len (holds w) states) (length states)) [
    | inl within ↦
        let found : busy_of w states ≡ Some (position_or_len (holds w) states) =
        ap (λ b. cond b (Some (position_or_len (holds w) states)) None) (lt-ltb (position_or_len (holds w) states) (length states) within) in
        cc
    | inr beyond ↦ ap (holds w) (get_or_past states k state.Skipped (omega (arith, past, beyond)))
  ]
]

pub none_holds : (w : ℕ) (states : List PipState) → is_none (busy_of w states) ≡ true → (k : ℕ) → holds w (state_at states k) ≡ false
none_holds w states h = busy_none w states (is_none_eq (busy_of w states) h)
  where
    is_none_eq : (o : Option ℕ) → is_none o ≡ true → o ≡ None
    is_none_eq None e = refl
    is_none_eq (Some x) e = cc

-- ## After an event

-- a state with a holder is held by the worker that alone may hold it
pub some_holder : (x : PipState) (w : ℕ) → ((u : ℕ) → holds u x ≡ true → u ≡ w) → is_some (holder x) ≡ true → holds w x ≡ true
some_holder state.Waiting w by h = cc
some_holder (state.Held v) w by h = eq-eqb v w (by v (eq-eqb v v refl))
some_holder (state.Looked v hit) w by h = eq-eqb v w (by v (eq-eqb v v refl))
some_holder (state.Published v good) w by h = eq-eqb v w (by v (eq-eqb v v refl))
some_holder (state.Done good) w by h = cc
some_holder state.Skipped w by h = cc

pub no_holder : (x : PipState) (w : ℕ) → is_some (holder x) ≡ false → holds w x ≡ false
no_holder state.Waiting w h = refl
no_holder (state.Held v) w h = cc
no_holder (state.Looked v hit) w h = cc
no_holder (state.Published v good) w h = cc
no_holder (state.Done good) w h = refl
no_holder state.Skipped w h = refl

-- a worker whose pip is another keeps its seat
pub busy_other : (states : List PipState) (q u : ℕ) (x : PipState) → holds u x ≡ false → holds u (state_at states q) ≡ false
    → busy_of u (set states q x) ≡ busy_of u states
busy_other states q u x now before =
    ap (λ m. cond (ltb m (length (set states q x))) (Some m) None) (position_or_len-set (holds u) states q x state.Skipped (now ∙ sym before))
    ∙ ap (λ n. cond (ltb (position_or_len (holds u) states) n) (Some (position_or_len (holds u) states)) None) (length-set states q x)

-- ## Nobody holds a pip

idle_from : (states : List PipState) → ((w k : ℕ) → holds w (state_at states k) ≡ false) → is_idle states ≡ true
idle_from [] h = refl
idle_from (state.Waiting ∷ states) h = idle_from states (λ w k. h w (suc k))
idle_from (state.Held v ∷ states) h =
    let own : (v == v) ≡ false = h v 0 in
    let hit : (v == v) ≡ true = eq-eqb v v refl in
    cc
idle_from (state.Looked v hit ∷ states) h =
    let own : (v == v) ≡ false = h v 0 in
    let same : (v == v) ≡ true = eq-eqb v v refl in
    cc
idle_from (state.Published v good ∷ states) h =
    let own : (v == v) ≡ false = h v 0 in
    let same : (v == v) ≡ true = eq-eqb v v refl in
    cc
idle_from (state.Done good ∷ states) h = idle_from states (λ w k. h w (suc k))
idle_from (state.Skipped ∷ states) h = idle_from states (λ w k. h w (suc k))

all_none : (seats : List (Option ℕ)) → list_all is_none seats ≡ true → (w : ℕ) → seat_at seats w ≡ None
all_none [] h w = refl
all_none (None ∷ seats) h zero = refl
all_none (Some p ∷ seats) h zero = cc
all_none (None ∷ seats) h (suc w) = all_none seats h w
all_none (Some p ∷ seats) h (suc w) = cc

some_seat : (seats : List (Option ℕ)) → list_all is_none seats ≡ false → (w : ℕ) × (p : ℕ) × (seat_at seats w ≡ Some p)
some_seat [] h = cc
some_seat (None ∷ seats) h = let found = some_seat seats h in (suc found.0, found.1, found.2)
some_seat (Some p ∷ seats) h = (0, p, refl)

held_has_holder : (w : ℕ) (s : PipState) → holds w s ≡ true → is_none (holder s) ≡ false
held_has_holder w state.Waiting h = cc
held_has_holder w (state.Held v) h = refl
held_has_holder w (state.Looked v hit) h = refl
held_has_holder w (state.Published v good) h = refl
held_has_holder w (state.Done good) h = cc
held_has_holder w state.Skipped h = cc

-- nobody holds a pip where all seats are empty
pub idle_by_seats : (states : List PipState) (seats : List (Option ℕ)) → AreSeats states seats → list_all is_none seats ≡ is_idle states
idle_by_seats states seats h = elim (cases_Bool (list_all is_none seats)) [
  | inl empty ↦ empty ∙ sym (idle_from states (λ w. busy_none w states (sym (h w) ∙ all_none seats empty w)))
  | inr taken ↦
      let found = some_seat seats taken in
      let busy : busy_of found.0 states ≡ Some found.1 = sym (h found.0) ∙ found.2 in
      taken ∙ sym (list_all_at (λ s. is_none (holder s)) states found.1 state.Skipped (busy_there found.0 found.1 states busy)
      (held_has_holder found.0 (state_at states found.1) (busy_held found.0 found.1 states busy)))
]
