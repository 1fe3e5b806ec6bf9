-- Lists of events, cut at one of them.
use Rattle.std.proofs.Common.{◌≡◌, Bool, true, false, List, [], ◌∷◌, ◌++◌, refl, ap, inl, inr}
use Rattle.std.proofs.lemmas.Bool.{and_from, and_parts, both_ways, cases_Bool}
use Rattle.sched_core.proofs.SoundSteps.{sound_step, steps_of}
use Rattle.sched_core.specs.Legal.{is_legal, state_after}
use Rattle.sched_core.specs.Sound.{IsSound}
use Rattle.sched_core.specs.Table.{CoreState, next_state, allows}
use Rattle.sched_core.specs.declared.event.Event.{Event}

pub state_after-append : (s : CoreState) (xs ys : List Event) → state_after s (xs ++ ys) ≡ state_after (state_after s xs) ys
state_after-append s [] ys = refl
state_after-append s (x ∷ xs) ys = state_after-append (next_state s x) xs ys

-- no event changes the pips
pub nodes_after : (s : CoreState) (xs : List Event) → (state_after s xs).nodes ≡ s.nodes
nodes_after s [] = refl
nodes_after s (x ∷ xs) = nodes_after (next_state s x) xs

-- both parts of a legal list are legal, the second where the first leads
pub legal_parts : (s : CoreState) (xs ys : List Event) → is_legal s (xs ++ ys) ≡ true
    → (is_legal s xs ≡ true) × (is_legal (state_after s xs) ys ≡ true)
legal_parts s [] ys h = (refl, h)
legal_parts s (x ∷ xs) ys h =
    let parts = and_parts (allows s x) (is_legal (next_state s x) (xs ++ ys)) h in
    let rest = legal_parts (next_state s x) xs ys parts.1 in
    (and_from (allows s x) (is_legal (next_state s x) xs) parts.0 rest.0, rest.1)

-- an event that is allowed may follow
pub legal_push : (s : CoreState) (xs : List Event) (e : Event) → is_legal s xs ≡ true → allows (state_after s xs) e ≡ true
    → is_legal s (xs ++ e ∷ []) ≡ true
legal_push s [] e h allowed = and_from (allows s e) true allowed refl
legal_push s (x ∷ xs) e h allowed =
    let parts = and_parts (allows s x) (is_legal (next_state s x) xs) h in
    and_from (allows s x) (is_legal (next_state s x) (xs ++ e ∷ [])) parts.0 (legal_push (next_state s x) xs e parts.1 allowed)

-- the next event after a legal list is allowed
pub next_allowed : (s : CoreState) (xs : List Event) (e : Event) (rest : List Event) → is_legal s (xs ++ e ∷ rest) ≡ true
    → allows (state_after s xs) e ≡ true
next_allowed s xs e rest h =
    (and_parts (allows (state_after s xs) e) (is_legal (next_state (state_after s xs) e) rest) (legal_parts s xs (e ∷ rest) h).1).0

pub sound_after : (s : CoreState) (xs : List Event) → IsSound s → is_legal s xs ≡ true → IsSound (state_after s xs)
sound_after s [] sound h = sound
sound_after s (x ∷ xs) sound h =
    let parts = and_parts (allows s x) (is_legal (next_state s x) xs) h in
    sound_after (next_state s x) xs (sound_step s x sound (steps_of s x sound parts.0)) parts.1

-- ## Facts that last, and facts that turn

-- what each allowed event keeps, a legal list keeps
pub lasts : (P : CoreState → Bool) → ((s : CoreState) (e : Event) → IsSound s → allows s e ≡ true → P s ≡ true → P (next_state s e) ≡ true)
    → (s : CoreState) (xs : List Event) → IsSound s → is_legal s xs ≡ true → P s ≡ true → P (state_after s xs) ≡ true
lasts P keeps s [] sound h here = here
lasts P keeps s (x ∷ xs) sound h here =
    let parts = and_parts (allows s x) (is_legal (next_state s x) xs) h in
    lasts P keeps (next_state s x) xs (sound_step s x sound (steps_of s x sound parts.0)) parts.1 (keeps s x sound parts.0 here)

-- the event of a list at which a test of the state turns true
pub record TurnsAt (P : CoreState → Bool) (s : CoreState) (xs : List Event) (front : List Event) (e : Event) (back : List Event) : Type 0 where
  pub cut : xs ≡ front ++ e ∷ back
  pub sound : IsSound (state_after s front)
  pub allowed : allows (state_after s front) e ≡ true
  pub before : P (state_after s front) ≡ false
  pub now : P (next_state (state_after s front) e) ≡ true

abbrev pub Turns : (P : CoreState → Bool) → CoreState → List Event → Type 0
Turns P s xs = (front : List Event) × (e : Event) × (back : List Event) × TurnsAt P s xs front e back

later : (P : CoreState → Bool) (s : CoreState) (x : Event) (xs : List Event) → Turns P (next_state s x) xs → Turns P s (x ∷ xs)
later P s x xs (front, e, back, at) = (
  x ∷ front,
  e,
  back,
  record {
    cut = ap (λ es. x ∷ es) at.cut;
    sound = at.sound;
    allowed = at.allowed;
    before = at.before;
    now = at.now;
  },
)

-- a test that is false before a legal list and true after it turns at one of its events
pub turns : (P : CoreState → Bool) (s : CoreState) (xs : List Event) → IsSound s → is_legal s xs ≡ true → P s ≡ false
    → P (state_after s xs) ≡ true → Turns P s xs
turns P s [] sound h before now = absurd (both_ways (P s) before now)
turns P s (x ∷ xs) sound h before now =
    let parts = and_parts (allows s x) (is_legal (next_state s x) xs) h in
    elim (cases_Bool (P (next_state s x))) [
      | inl here ↦ ([], x, xs, record { cut = refl; sound = sound; allowed = parts.0; before = before; now = here })
      | inr not_here ↦
          later P s x xs (turns P (next_state s x) xs (sound_step s x sound (steps_of s x sound parts.0)) parts.1 not_here now)
    ]
