-- What a core keeps, as it begins and from event to event.
use Rattle.std.proofs.Common.{◌≡◌, ℕ, ◌<◌, ◌≤◌, ◌==◌, Bool, true, false, not, ◌&&◌, ◌||◌, if◌then◌else◌, Option, Some, None, is_some, IfSome, IfNone, List, length, set, refl, ap, sym, ◌∙◌, arith, inl, inr, subst, length-set}
use Rattle.std.proofs.lemmas.Bool.{cases_Bool, cases_eq, false_from_ne_true}
use Rattle.std.proofs.lemmas.List.{get_or-set_same, get_or-set_other}
use Rattle.sched_core.proofs.Counts.{all_good-is, missing-good, missing-set, some_bad-set}
use Rattle.sched_core.proofs.Flags.{but_state, flagged_all, flagged_size}
use Rattle.sched_core.proofs.Places.{state_at-same, state_at-other}
use Rattle.sched_core.proofs.Seats.{busy_nobody, busy_other, busy_some, no_holder, some_holder}
use Rattle.sched_core.proofs.SoundSteps.{Steps, sound_step, steps_of, stepped}
use Rattle.sched_core.specs.Indexes.{AreCounted, AreDependents, AreFlagged, AreSeats, HasSize, KeepsCore, Readiness, Settles, flagged, list_at, missing_at, missing_of, seat_at, times, seat_of}
use Rattle.sched_core.specs.Sets.{flag_at, IsLeast, IsNever}
use Rattle.sched_core.specs.Sound.{IsSound}
use Rattle.sched_core.specs.States.{holder, holds, is_bad, is_done_well, is_waiting}
use Rattle.sched_core.specs.Table.{CoreState, next_state, allows, node_inputs, left_after, may_skip, may_start, pip_of, some_bad, state_at, worker_of}
use Rattle.sched_core.specs.declared.event.Event.{Event}
use Rattle.sched_core.specs.declared.event.Event.TheVariants as event
use Rattle.sched_core.specs.declared.state.PipState.{PipState}
use Rattle.sched_core.specs.declared.state.PipState.TheVariants as state

-- ## What the flags say

pub starts_are : (s : CoreState) (dependents : List (List ℕ)) (ready : Readiness) (seats : List (Option ℕ)) → KeepsCore s dependents ready seats
    → (p : ℕ) → flag_at ready.starts p ≡ may_start s p
starts_are s dependents ready seats k p =
    k.flagged.starts p
    ∙ ap (λ (n : ℕ). is_waiting (state_at s.states p) && (n == 0)) (k.counted.missing p)
    ∙ ap (λ b. is_waiting (state_at s.states p) && b) (sym (all_good-is s.states (node_inputs s.nodes p)))

pub skips_are : (s : CoreState) (dependents : List (List ℕ)) (ready : Readiness) (seats : List (Option ℕ)) → KeepsCore s dependents ready seats
    → (p : ℕ) → flag_at ready.skips p ≡ may_skip s p
skips_are s dependents ready seats k p =
    k.flagged.skips p ∙ ap (λ b. is_waiting (state_at s.states p) && b) (k.counted.failed p)

-- a least number that passes a test passes one that is the same
pub least_of : (f g : ℕ → Bool) (n : ℕ) → ((p : ℕ) → f p ≡ g p) → IsLeast f n → IsLeast g n
least_of f g n same h = record { passes = sym (same n) ∙ h.passes; least = λ k l. sym (same k) ∙ h.least k l }

pub never_of : (f g : ℕ → Bool) → ((p : ℕ) → f p ≡ g p) → IsNever f → IsNever g
never_of f g same h = λ p. sym (same p) ∙ h p

pub some_least : (f g : ℕ → Bool) (found given : Option ℕ) → given ≡ found → ((p : ℕ) → f p ≡ g p) → IfSome found (IsLeast f) → IfSome given (IsLeast g)
some_least f g None given is same h = rw is tt
some_least f g (Some n) given is same h = rw is (least_of f g n same h)

pub none_least : (f g : ℕ → Bool) (found given : Option ℕ) → given ≡ found → ((p : ℕ) → f p ≡ g p) → IfNone found (IsNever f) → IfNone given (IsNever g)
none_least f g None given is same h = rw is (never_of f g same h)
none_least f g (Some n) given is same h = rw is tt

-- ## An event

pub length-left_after : (left : List Bool) (e : Event) → length (left_after left e) ≡ length left
length-left_after left (event.Start p w) = refl
length-left_after left (event.Looked p w hit) = refl
length-left_after left (event.Publish p w good) = refl
length-left_after left (event.Complete p w) = refl
length-left_after left (event.Skip p w) = refl
length-left_after left (event.Release p w) = length-set left w true

seats_step : (s : CoreState) (e : Event) (seats : List (Option ℕ)) → IsSound s → Steps s e (stepped s e) → length seats ≡ length s.left
    → AreSeats s.states seats
    → AreSeats (next_state s e).states (set seats (worker_of e) (seat_of (pip_of e) (stepped s e)))
seats_step s e seats sound h size before u =
    let q = pip_of e in
    let w = worker_of e in
    let x = stepped s e in
    let now = set s.states q x in
    let v = seat_of q x in
    let sound_now : IsSound (next_state s e) = sound_step s e sound h in
    let at_pip : state_at now q ≡ x = state_at-same s.states q x h.there in
    elim (cases_eq u w) [
      | inl same ↦
          let read : seat_at (set seats w v) u ≡ v =
          ap (λ i. seat_at (set seats w v) i) same ∙ get_or-set_same seats w v None (omega (arith, size, h.is_in)) in
          elim (cases_Bool (is_some (holder x))) [
            | inl held ↦
                let here : holds u (state_at now q) ≡ true =
                ap (holds u) at_pip ∙ ap (λ i. holds i x) same ∙ some_holder x w h.by held in
                read ∙ ap (λ b. if b then Some q else None) held
                ∙ sym (busy_some u q now (omega (arith, length-set s.states q x, h.there)) here (λ k g. sound_now.alone k q u g here))
            | inr none ↦
                let nobody : (k : ℕ) → holds u (state_at now k) ≡ false = λ k. elim (cases_eq k q) [
                  | inl at ↦ ap (λ i. holds u (state_at now i)) at ∙ ap (holds u) at_pip ∙ no_holder x u none
                  | inr other ↦
                      ap (holds u) (state_at-other s.states q k x other)
                      ∙ false_from_ne_true (holds u (state_at s.states k))
                      (λ g. other (h.lone k (ap (λ i. holds i (state_at s.states k)) (sym same) ∙ g)))
                ] in
                read ∙ ap (λ b. if b then Some q else None) none ∙ sym (busy_nobody u now nobody)
          ]
      | inr differ ↦
          get_or-set_other seats w u v None differ ∙ before u
          ∙ sym (busy_other s.states q u x
          (false_from_ne_true (holds u x) (λ g. differ (h.by u g)))
          (false_from_ne_true (holds u (state_at s.states q)) (λ g. differ (h.before u g))))
    ]

counted_step : (s : CoreState) (q : ℕ) (x : PipState) (dependents : List (List ℕ)) (old new : Readiness) → q < length s.states
    → is_done_well (state_at s.states q) ≡ false → is_bad (state_at s.states q) ≡ false
    → AreDependents s.nodes dependents → AreCounted s.nodes s.states old
    → Settles (list_at dependents q) x old new → AreCounted s.nodes (set s.states q x) new
counted_step s q x dependents old new there not_good not_bad lists before h = record {
  missing = λ p. omega (
    arith,
    h.missing p,
    before.missing p,
    missing-set s.states q x (node_inputs s.nodes p) there not_good,
    ap (λ n. if is_done_well x then n else 0) (lists q p),
  );
  failed = λ p.
      h.failed p ∙ ap (λ b. b || (is_bad x && not (times p (list_at dependents q) == 0))) (before.failed p)
      ∙ ap (λ (n : ℕ). some_bad s.states (node_inputs s.nodes p) || (is_bad x && not (n == 0))) (lists q p)
      ∙ sym (some_bad-set s.states q x (node_inputs s.nodes p) there not_bad);
}

keeps_after : (s : CoreState) (e : Event) (dependents : List (List ℕ)) (ready new : Readiness) (seats : List (Option ℕ))
    → KeepsCore s dependents ready seats → allows s e ≡ true → HasSize new (length s.nodes)
    → AreFlagged (set s.states (pip_of e) (stepped s e)) new
    → Settles (list_at dependents (pip_of e)) (stepped s e) (flagged ready (pip_of e) (is_waiting (stepped s e))) new
    → KeepsCore (next_state s e) dependents new (set seats (worker_of e) (seat_of (pip_of e) (stepped s e)))
keeps_after s e dependents ready new seats k allowed size flags settles =
    let h = steps_of s e k.sound allowed in record {
      ordered = k.ordered;
      few = k.few;
      sound = sound_step s e k.sound h;
      size = size;
      are_dependents = k.are_dependents;
      dependents_size = k.dependents_size;
      counted = counted_step s (pip_of e) (stepped s e) dependents (flagged ready (pip_of e) (is_waiting (stepped s e))) new h.there
          h.still_open.not_good h.still_open.not_bad k.are_dependents (record { missing = k.counted.missing; failed = k.counted.failed }) settles;
      flagged = flags;
      are_seats = seats_step s e seats k.sound h k.seats_size k.are_seats;
      seats_size = length-set seats (worker_of e) (seat_of (pip_of e) (stepped s e)) ∙ k.seats_size ∙ sym (length-left_after s.left e);
    }

-- what an event's pip and worker are, and what its pip's state and the list of those who left become
pub record Advances (s : CoreState) (e : Event) (q w : ℕ) (x : PipState) (left : List Bool) : Type 0 where
  pub pip : q ≡ pip_of e
  pub worker : w ≡ worker_of e
  pub state_is : x ≡ stepped s e
  pub left_is : left ≡ left_after s.left e

pub advanced : (s : CoreState) (e : Event) (q w : ℕ) (x : PipState) (left : List Bool) → Advances s e q w x left
    → record { nodes = s.nodes; states = set s.states q x; left = left } ≡ next_state s e
advanced s e q w x left h = rw (h.pip, h.state_is, h.left_is) refl

pub keeps_step : (s : CoreState) (e : Event) (q w : ℕ) (x : PipState) (left : List Bool) → Advances s e q w x left
    → (dependents : List (List ℕ)) (ready new : Readiness) (seats : List (Option ℕ))
    → KeepsCore s dependents ready seats → allows s e ≡ true → HasSize new (length s.nodes)
    → AreFlagged (set s.states q x) new
    → Settles (list_at dependents q) x (flagged ready q (is_waiting x)) new
    → KeepsCore (record { nodes = s.nodes; states = set s.states q x; left = left }) dependents new (set seats w (seat_of q x))
keeps_step s e q w x left h dependents ready new seats k allowed size flags settles =
    let P : ℕ → Type 0 = λ p. AreFlagged (set s.states p x) new × Settles (list_at dependents p) x (flagged ready p (is_waiting x)) new in
    let at_pip = subst P h.pip (flags, settles) in
    let Q : PipState → Type 0 = λ y. AreFlagged (set s.states (pip_of e) y) new
    × Settles (list_at dependents (pip_of e)) y (flagged ready (pip_of e) (is_waiting y)) new in
    let both = subst Q h.state_is at_pip in
    rw (h.pip, h.state_is, h.left_is, h.worker) (keeps_after s e dependents ready new seats k allowed size both.0 both.1)

-- ## Before the dependents are gone through

-- a pip that is not good is missing wherever it is an input
times_missing : (states : List PipState) (q : ℕ) (inputs : List ℕ) → q < length states → is_done_well (state_at states q) ≡ false
    → times q inputs ≤ missing_of states inputs
times_missing states q inputs there not_good = omega (arith, missing-good states q (state.Done true) inputs there not_good refl)

-- an event that is allowed has its pip and its worker
pub record IsThere (s : CoreState) (q w : ℕ) : Type 0 where
  pub pip : q < length s.states
  pub worker : w < length s.left

pub is_there_for : (s : CoreState) (e : Event) (q w : ℕ) → IsSound s → allows s e ≡ true → q ≡ pip_of e → w ≡ worker_of e → IsThere s q w
is_there_for s e q w sound allowed pip worker =
    let h = steps_of s e sound allowed in record { pip = rw pip h.there; worker = rw worker h.is_in }

-- the flags of an event's pip are set, and its dependents are to be gone through
pub record CanSettle (s : CoreState) (dependents : List (List ℕ)) (ready : Readiness) (q : ℕ) (x : PipState) : Type 0 where
  pub size : HasSize (flagged ready q (is_waiting x)) (length (set s.states q x))
  pub flags : AreFlagged (set s.states q x) (flagged ready q (is_waiting x))
  pub counted : (p : ℕ) → times p (list_at dependents q) ≤ missing_at ready p

pub can_settle : (s : CoreState) (e : Event) (q : ℕ) (x : PipState) (dependents : List (List ℕ)) (ready : Readiness) (seats : List (Option ℕ))
    → KeepsCore s dependents ready seats → allows s e ≡ true → q ≡ pip_of e → CanSettle s dependents ready q x
can_settle s e q x dependents ready seats k allowed pip =
    let h = steps_of s e k.sound allowed in
    let there : q < length s.states = rw pip h.there in
    let not_good : is_done_well (state_at s.states q) ≡ false = ap (λ i. is_done_well (state_at s.states i)) pip ∙ h.still_open.not_good in
    let n : length (set s.states q x) ≡ length s.nodes = length-set s.states q x ∙ k.sound.same_size in record {
      size = rw n (flagged_size ready (length s.nodes) q (is_waiting x) k.size);
      flags = flagged_all (set s.states q x) ready (length s.nodes) q (is_waiting x) k.size (omega (arith, there, k.sound.same_size))
          (ap is_waiting (sym (state_at-same s.states q x there)))
          (but_state s.states ready q x k.flagged);
      counted = λ p. omega (
        arith,
        lists_agree s dependents ready seats k q p,
        times_missing s.states q (node_inputs s.nodes p) there not_good,
        k.counted.missing p,
      );
    }
  where
    lists_agree : (s : CoreState) (dependents : List (List ℕ)) (ready : Readiness) (seats : List (Option ℕ)) → KeepsCore s dependents ready seats
        → (q p : ℕ) → times p (list_at dependents q) ≡ times q (node_inputs s.nodes p)
    lists_agree s dependents ready seats k q p = k.are_dependents q p

-- the size of the indexes, by that of the states now
pub settles_by : (s : CoreState) (q : ℕ) (x : PipState) {now : List PipState} {new : Readiness} → now ≡ set s.states q x
    → length s.states ≡ length s.nodes → HasSize new (length now) → HasSize new (length s.nodes)
settles_by s q x {now} {new} states same size =
    let n : length now ≡ length s.nodes = ap {B = ℕ} length states ∙ length-set s.states q x ∙ same in
    rw n at size
