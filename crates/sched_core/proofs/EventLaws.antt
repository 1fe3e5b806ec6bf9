-- The laws of legal lists of events.
use Rattle.std.proofs.Common.{◌≡◌, ℕ, ◌<◌, Bool, true, false, not, ◌&&◌, List, [], ◌∷◌, ◌++◌, length, get_or, set, refl, ap, sym, ◌∙◌, arith, inl, inr, subst}
use Rattle.std.specs.List.{Contains}
use Rattle.std.proofs.lemmas.Bool.{and_parts, both_ways, cases_Bool, cases_eq, not-true}
use Rattle.std.proofs.lemmas.List.Elements.{Contains-append_right}
use Rattle.std.proofs.lemmas.List.Folds.{list_all_at}
use Rattle.std.proofs.lemmas.List.{get_or-set_same, get_or-set_other}
use Rattle.sched_core.proofs.Beginning.{sound_at_first, fails_of_all}
use Rattle.sched_core.proofs.Histories.{lasts, legal_parts, next_allowed, nodes_after, sound_after, state_after-append, turns}
use Rattle.sched_core.proofs.Places.{after_write, state_at-same, state_at-other}
use Rattle.sched_core.proofs.SoundSteps.{one_holder, sound_step, steps_of, stepped}
use Rattle.sched_core.specs.Laws.{NothingAfterRelease, OneHolder, OnePip, PublishedOnce, ReachesSound, ReleasedBetween, StartsAfterInputs, reached}
use Rattle.sched_core.specs.Legal.{initial_state, is_legal, state_after}
use Rattle.sched_core.specs.Sound.{IsSound}
use Rattle.sched_core.specs.States.{completed, is_claimed_by, is_done_well, is_waiting, may_complete, may_publish, may_release}
use Rattle.sched_core.specs.Table.{CoreState, next_state, all_good, allows, may_skip, some_bad, fits_table, has_left, holds_none, node_inputs, may_start, node_at, pip_of, state_at, worker_of}
use Rattle.sched_core.specs.declared.event.Event.{Event}
use Rattle.sched_core.specs.declared.event.Event.TheVariants as event
use Rattle.sched_core.specs.declared.graph.Node.{Node}
use Rattle.sched_core.specs.declared.state.PipState.{PipState}
use Rattle.sched_core.specs.declared.state.PipState.TheVariants as state

-- ## Whoever holds

pub reaches_sound : (nodes : List Node) (workers : ℕ) → ReachesSound nodes workers
reaches_sound nodes workers events legal = sound_after (initial_state nodes workers) events (sound_at_first nodes workers) legal

pub holds_alone : (nodes : List Node) (workers : ℕ) → OnePip nodes workers
holds_alone nodes workers events p q w legal a b = (reaches_sound nodes workers events legal).alone p q w a b

pub held_by_one : (nodes : List Node) (workers : ℕ) → OneHolder nodes workers
held_by_one nodes workers events p v w legal a b =
    one_holder (state_at (reached nodes workers events).states p) v w a b

-- ## Published once

-- the pip was published
abbrev is_published : PipState → Bool
is_published state.Waiting = false
is_published (state.Held w) = false
is_published (state.Looked w hit) = false
is_published (state.Published w good) = true
is_published (state.Done good) = true
is_published state.Skipped = false

not_published : (is_process : Bool) (w : ℕ) (good : Bool) (s : PipState) → may_publish is_process w good s ≡ true → is_published s ≡ false
not_published is_process w good state.Waiting h = refl
not_published is_process w good (state.Held v) h = refl
not_published is_process w good (state.Looked v hit) h = refl
not_published true w good (state.Published v done) h = cc
not_published false w good (state.Published v done) h = cc
not_published true w good (state.Done done) h = cc
not_published false w good (state.Done done) h = cc
not_published is_process w good state.Skipped h = refl

unpublished_waiting : (s : PipState) → is_waiting s ≡ true → is_published s ≡ false
unpublished_waiting state.Waiting h = refl
unpublished_waiting (state.Held v) h = refl
unpublished_waiting (state.Looked v hit) h = refl
unpublished_waiting (state.Published v good) h = cc
unpublished_waiting (state.Done good) h = cc
unpublished_waiting state.Skipped h = refl

unpublished_claimed : (w : ℕ) (s : PipState) → is_claimed_by w s ≡ true → is_published s ≡ false
unpublished_claimed w state.Waiting h = refl
unpublished_claimed w (state.Held v) h = refl
unpublished_claimed w (state.Looked v hit) h = refl
unpublished_claimed w (state.Published v good) h = cc
unpublished_claimed w (state.Done good) h = cc
unpublished_claimed w state.Skipped h = refl

unpublished_released : (w : ℕ) (s : PipState) → may_release w s ≡ true → is_published s ≡ false
unpublished_released w state.Waiting h = refl
unpublished_released w (state.Held v) h = refl
unpublished_released w (state.Looked v hit) h = refl
unpublished_released w (state.Published v good) h = cc
unpublished_released w (state.Done good) h = cc
unpublished_released w state.Skipped h = refl

published_completed : (w : ℕ) (s : PipState) → may_complete w s ≡ true → is_published (completed s) ≡ true
published_completed w state.Waiting h = cc
published_completed w (state.Held v) h = cc
published_completed w (state.Looked v hit) h = cc
published_completed w (state.Published v good) h = refl
published_completed w (state.Done good) h = cc
published_completed w state.Skipped h = cc

pub waits_to_start : (s : CoreState) (p w : ℕ) → (may_start s p && holds_none w s.states) ≡ true
    → (is_waiting (state_at s.states p) ≡ true) × (all_good s.states (node_inputs s.nodes p) ≡ true)
waits_to_start s p w h = and_parts (is_waiting (state_at s.states p)) (all_good s.states (node_inputs s.nodes p)) (and_parts (may_start s p) (holds_none w s.states) h).0

pub waits_to_skip : (s : CoreState) (p w : ℕ) → (may_skip s p && holds_none w s.states) ≡ true → is_waiting (state_at s.states p) ≡ true
waits_to_skip s p w h = (and_parts (is_waiting (state_at s.states p)) (some_bad s.states (node_inputs s.nodes p)) (and_parts (may_skip s p) (holds_none w s.states) h).0).0

-- an event of a pip that was published completes it
keeps_published : (s : CoreState) (e : Event) → fits_table s e ≡ true → is_published (state_at s.states (pip_of e)) ≡ true
    → is_published (stepped s e) ≡ true
keeps_published s (event.Start p w) h here =
    absurd (both_ways (is_published (state_at s.states p)) (unpublished_waiting (state_at s.states p) (waits_to_start s p w h).0) here)
keeps_published s (event.Looked p w hit) h here =
    let claimed = (and_parts (node_at s.nodes p).is_process (is_claimed_by w (state_at s.states p)) h).1 in
    absurd (both_ways (is_published (state_at s.states p)) (unpublished_claimed w (state_at s.states p) claimed) here)
keeps_published s (event.Publish p w good) h here = refl
keeps_published s (event.Complete p w) h here = published_completed w (state_at s.states p) h
keeps_published s (event.Skip p w) h here =
    absurd (both_ways (is_published (state_at s.states p)) (unpublished_waiting (state_at s.states p) (waits_to_skip s p w h)) here)
keeps_published s (event.Release p w) h here =
    absurd (both_ways (is_published (state_at s.states p)) (unpublished_released w (state_at s.states p) h) here)

pub fits : (s : CoreState) (e : Event) → allows s e ≡ true → fits_table s e ≡ true
fits s e h = (and_parts (not (has_left s.left (worker_of e))) (fits_table s e) h).1

stays_published : (p : ℕ) (s : CoreState) (e : Event) → IsSound s → allows s e ≡ true → is_published (state_at s.states p) ≡ true
    → is_published (state_at (next_state s e).states p) ≡ true
stays_published p s e sound h here =
    let P : PipState → Type 0 = λ x. is_published x ≡ true in
    after_write P s.states (pip_of e) p (stepped s e) (steps_of s e sound h).there
    (λ same. keeps_published s e (fits s e h) (sym (ap (λ k. is_published (state_at s.states k)) same) ∙ here))
    (λ other. here)

-- the state after an event of a list, and what of the list is left
pub record CutAt (s : CoreState) (xs : List Event) (e : Event) (between : List Event) (last : Event) : Type 0 where
  pub sound : IsSound (state_after s xs)
  pub allowed : allows (state_after s xs) e ≡ true
  pub sound_next : IsSound (next_state (state_after s xs) e)
  pub legal : is_legal (next_state (state_after s xs) e) between ≡ true
  pub last_allowed : allows (state_after (next_state (state_after s xs) e) between) last ≡ true

pub cut_at : (s : CoreState) (xs : List Event) (e : Event) (between : List Event) (last : Event) (rest : List Event) → IsSound s
    → is_legal s ((xs ++ e ∷ between) ++ last ∷ rest) ≡ true → CutAt s xs e between last
cut_at s xs e between last rest sound h =
    let whole = legal_parts s (xs ++ e ∷ between) (last ∷ rest) h in
    let parts = legal_parts s xs (e ∷ between) whole.0 in
    let at = and_parts (allows (state_after s xs) e) (is_legal (next_state (state_after s xs) e) between) parts.1 in
    let here = sound_after s xs sound parts.0 in
    let final : allows (state_after s (xs ++ e ∷ between)) last ≡ true =
    (and_parts (allows (state_after s (xs ++ e ∷ between)) last) (is_legal (next_state (state_after s (xs ++ e ∷ between)) last) rest) whole.1).0 in record {
      sound = here;
      allowed = at.0;
      sound_next = sound_step (state_after s xs) e here (steps_of (state_after s xs) e here at.0);
      legal = at.1;
      last_allowed = ap (λ (v : CoreState). allows v last) (sym (state_after-append s xs (e ∷ between))) ∙ final;
    }

pub published_once : (nodes : List Node) (workers : ℕ) → PublishedOnce nodes workers
published_once nodes workers xs between rest p v w a b h =
    let s = initial_state nodes workers in
    let cut = cut_at s xs (event.Publish p v a) between (event.Publish p w b) rest (sound_at_first nodes workers) h in
    let mid = next_state (state_after s xs) (event.Publish p v a) in
    let there = (steps_of (state_after s xs) (event.Publish p v a) cut.sound cut.allowed).there in
    let first : is_published (state_at mid.states p) ≡ true =
    ap is_published (state_at-same (state_after s xs).states p (state.Published v a) there) in
    let still = lasts (λ t. is_published (state_at t.states p)) (stays_published p) mid between cut.sound_next cut.legal first in
    let end = state_after mid between in
    both_ways (is_published (state_at end.states p))
    (not_published (node_at end.nodes p).is_process w b (state_at end.states p) (fits end (event.Publish p w b) cut.last_allowed))
    still

-- ## Starts after inputs

good_is_done : (s : PipState) → is_done_well s ≡ true → s ≡ state.Done true
good_is_done state.Waiting h = cc
good_is_done (state.Held v) h = cc
good_is_done (state.Looked v hit) h = cc
good_is_done (state.Published v good) h = cc
good_is_done (state.Done good) h = ap state.Done h
good_is_done state.Skipped h = cc

-- the event by which a pip is good completes it
pub record GoodBy (s : CoreState) (e : Event) (d w : ℕ) : Type 0 where
  pub completes : e ≡ event.Complete d w
  pub done : state_at (next_state s e).states d ≡ state.Done true

-- whatever an event does not touch is as before
untouched : (P : PipState → Bool) (s : CoreState) (e : Event) (d : ℕ) → (d ≡ pip_of e → ⊥) → P (state_at s.states d) ≡ false
    → P (state_at (next_state s e).states d) ≡ true → ⊥
untouched P s e d other before now =
    both_ways (P (state_at s.states d)) before (sym (ap P (state_at-other s.states (pip_of e) d (stepped s e) other)) ∙ now)

at_event : (P : PipState → Bool) (s : CoreState) (e : Event) (d : ℕ) → pip_of e < length s.states → d ≡ pip_of e
    → P (state_at (next_state s e).states d) ≡ true → P (stepped s e) ≡ true
at_event P s e d there same now =
    sym (ap (λ k. P (state_at (next_state s e).states k)) same ∙ ap P (state_at-same s.states (pip_of e) (stepped s e) there)) ∙ now

good_by : (s : CoreState) (e : Event) (d : ℕ) → pip_of e < length s.states → d ≡ pip_of e → is_done_well (state_at (next_state s e).states d) ≡ true
    → (w : ℕ) × GoodBy s e d w
good_by s (event.Start p w) d there same now = absurd (both_ways false refl (at_event is_done_well s (event.Start p w) d there same now))
good_by s (event.Looked p w hit) d there same now = absurd (both_ways false refl (at_event is_done_well s (event.Looked p w hit) d there same now))
good_by s (event.Publish p w good) d there same now = absurd (both_ways false refl (at_event is_done_well s (event.Publish p w good) d there same now))
good_by s (event.Complete p w) d there same now =
    (w, record { completes = ap (λ k. event.Complete k w) (sym same); done = good_is_done (state_at (next_state s (event.Complete p w)).states d) now })
good_by s (event.Skip p w) d there same now = absurd (both_ways false refl (at_event is_done_well s (event.Skip p w) d there same now))
good_by s (event.Release p w) d there same now = absurd (both_ways false refl (at_event is_done_well s (event.Release p w) d there same now))

good_turn : (s : CoreState) (e : Event) (d : ℕ) → IsSound s → allows s e ≡ true → is_done_well (state_at s.states d) ≡ false
    → is_done_well (state_at (next_state s e).states d) ≡ true → (w : ℕ) × GoodBy s e d w
good_turn s e d sound h before now = elim (cases_eq d (pip_of e)) [
  | inl same ↦ good_by s e d (steps_of s e sound h).there same now
  | inr other ↦ absurd (untouched is_done_well s e d other before now)
]

all_good_at : (states : List PipState) (inputs : List ℕ) (d : ℕ) → all_good states inputs ≡ true → Contains inputs d
    → is_done_well (state_at states d) ≡ true
all_good_at states inputs d h (k, l, is) = elim (cases_Bool (is_done_well (state_at states (get_or inputs k d)))) [
  | inl good ↦ ap (λ i. is_done_well (state_at states i)) (sym is) ∙ good
  | inr bad ↦ absurd (both_ways (all_good states inputs) (list_all_at (λ i. is_done_well (state_at states i)) inputs k d l bad) h)
]

pub starts_after_inputs : (nodes : List Node) (workers : ℕ) → StartsAfterInputs nodes workers
starts_after_inputs nodes workers xs rest p w d h has =
    let s = initial_state nodes workers in
    let end = state_after s xs in
    let parts = legal_parts s xs (event.Start p w ∷ rest) h in
    let may = (waits_to_start end p w (fits end (event.Start p w) (next_allowed s xs (event.Start p w) rest h))).1 in
    let has_now : Contains (node_inputs end.nodes p) d = rw (nodes_after s xs) has in
    let good = all_good_at end.states (node_inputs end.nodes p) d may has_now in
    let turn = turns (λ t. is_done_well (state_at t.states d)) s xs (sound_at_first nodes workers) parts.0
    (fails_of_all is_done_well (length nodes) d refl refl) good in
    let at = turn.3 in
    let by = good_turn (state_after s turn.0) turn.1 d at.sound at.allowed at.before at.now in
    let is : turn.1 ≡ event.Complete d by.0 = by.1.completes in (
      turn.0,
      turn.2,
      by.0,
      at.cut ∙ ap (λ e. turn.0 ++ e ∷ turn.2) is,
      ap (λ (v : CoreState). state_at v.states d) (state_after-append s turn.0 (event.Complete d by.0 ∷ []))
          ∙ ap (λ e. state_at (next_state (state_after s turn.0) e).states d) (sym is) ∙ by.1.done,
    )

-- ## Released between two starts

completed_waits : (s : PipState) → is_waiting (completed s) ≡ is_waiting s
completed_waits state.Waiting = refl
completed_waits (state.Held v) = refl
completed_waits (state.Looked v hit) = refl
completed_waits (state.Published v good) = refl
completed_waits (state.Done good) = refl
completed_waits state.Skipped = refl

waits_by : (s : CoreState) (e : Event) (d : ℕ) → pip_of e < length s.states → d ≡ pip_of e → is_waiting (state_at s.states d) ≡ false
    → is_waiting (state_at (next_state s e).states d) ≡ true → (u : ℕ) × (e ≡ event.Release d u)
waits_by s (event.Start p w) d there same before now = absurd (both_ways false refl (at_event is_waiting s (event.Start p w) d there same now))
waits_by s (event.Looked p w hit) d there same before now = absurd (both_ways false refl (at_event is_waiting s (event.Looked p w hit) d there same now))
waits_by s (event.Publish p w good) d there same before now = absurd (both_ways false refl (at_event is_waiting s (event.Publish p w good) d there same now))
waits_by s (event.Complete p w) d there same before now =
    absurd (both_ways (is_waiting (state_at s.states d)) before
    (ap (λ k. is_waiting (state_at s.states k)) same ∙ sym (completed_waits (state_at s.states p))
    ∙ at_event is_waiting s (event.Complete p w) d there same now))
waits_by s (event.Skip p w) d there same before now = absurd (both_ways false refl (at_event is_waiting s (event.Skip p w) d there same now))
waits_by s (event.Release p w) d there same before now = (w, ap (λ k. event.Release k w) (sym same))

pub released_between : (nodes : List Node) (workers : ℕ) → ReleasedBetween nodes workers
released_between nodes workers xs between rest p v w h =
    let s = initial_state nodes workers in
    let cut = cut_at s xs (event.Start p v) between (event.Start p w) rest (sound_at_first nodes workers) h in
    let mid = next_state (state_after s xs) (event.Start p v) in
    let end = state_after mid between in
    let there = (steps_of (state_after s xs) (event.Start p v) cut.sound cut.allowed).there in
    let started : is_waiting (state_at mid.states p) ≡ false =
    ap is_waiting (state_at-same (state_after s xs).states p (state.Held v) there) in
    let waits = (waits_to_start end p w (fits end (event.Start p w) cut.last_allowed)).0 in
    let turn = turns (λ t. is_waiting (state_at t.states p)) mid between cut.sound_next cut.legal started waits in
    let at = turn.3 in
    let by = elim (cases_eq p (pip_of turn.1)) as (λ c. (u : ℕ) × (turn.1 ≡ event.Release p u)) [
      | inl same ↦ waits_by (state_after mid turn.0) turn.1 p (steps_of (state_after mid turn.0) turn.1 at.sound at.allowed).there same at.before at.now
      | inr other ↦ absurd (untouched is_waiting (state_after mid turn.0) turn.1 p other at.before at.now)
    ] in (
      by.0,
      subst (λ events. Contains events (event.Release p by.0)) (sym (at.cut ∙ ap (λ e. turn.0 ++ e ∷ turn.2) by.1))
          (Contains-append_right turn.0 (event.Release p by.0 ∷ turn.2) (event.Release p by.0) (0, omega (arith), refl)),
    )

-- ## Nothing after a release

stays_gone : (w : ℕ) (s : CoreState) (e : Event) → IsSound s → allows s e ≡ true → has_left s.left w ≡ true → has_left (next_state s e).left w ≡ true
stays_gone w s (event.Start p v) sound h gone = gone
stays_gone w s (event.Looked p v hit) sound h gone = gone
stays_gone w s (event.Publish p v good) sound h gone = gone
stays_gone w s (event.Complete p v) sound h gone = gone
stays_gone w s (event.Skip p v) sound h gone = gone
stays_gone w s (event.Release p v) sound h gone = elim (cases_eq w v) [
  | inl same ↦ ap (λ k. has_left (set s.left v true) k) same ∙ get_or-set_same s.left v true true (steps_of s (event.Release p v) sound h).is_in
  | inr other ↦ get_or-set_other s.left v w true true other ∙ gone
]

pub nothing_after_release : (nodes : List Node) (workers : ℕ) → NothingAfterRelease nodes workers
nothing_after_release nodes workers xs between rest p w e h same =
    let s = initial_state nodes workers in
    let cut = cut_at s xs (event.Release p w) between e rest (sound_at_first nodes workers) h in
    let front = state_after s xs in
    let mid = next_state front (event.Release p w) in
    let end = state_after mid between in
    let first : has_left mid.left w ≡ true =
    get_or-set_same front.left w true true (steps_of front (event.Release p w) cut.sound cut.allowed).is_in in
    let gone = lasts (λ t. has_left t.left w) (stays_gone w) mid between cut.sound_next cut.legal first in
    let stayed = not-true (has_left end.left (worker_of e)) (and_parts (not (has_left end.left (worker_of e))) (fits_table end e) cut.last_allowed).0 in
    both_ways (has_left end.left w) (sym (ap (has_left end.left) same) ∙ stayed) gone
