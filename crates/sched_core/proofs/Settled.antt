-- Where nothing can go on, each pip is completed or skipped.
use Rattle.std.proofs.Common.{◌≡◌, ℕ, ◌+◌, ◌<◌, Bool, true, false, ◌&&◌, is_none, List, [], ◌∷◌, length, get_or, zero, suc, refl, ap, arith, inl, inr}
use Rattle.std.proofs.lemmas.Bool.{and_from, both_ways, cases_Bool, cases_lt, or_parts}
use Rattle.std.proofs.lemmas.List.{get_or_past}
use Rattle.std.proofs.lemmas.List.Folds.{list_all_at}
use Rattle.sched_core.specs.Laws.{EndsSettled}
use Rattle.sched_core.specs.States.{holder, is_bad, is_done_well, is_settled, is_waiting}
use Rattle.sched_core.specs.Table.{AreOrdered, CoreState, all_good, are_settled, node_inputs, is_idle, may_skip, may_start, some_bad, state_at}
use Rattle.sched_core.specs.declared.state.PipState.{PipState}
use Rattle.sched_core.specs.declared.state.PipState.TheVariants as state

good_if_settled : (s : PipState) → is_settled s ≡ true → is_bad s ≡ false → is_done_well s ≡ true
good_if_settled state.Waiting h n = cc
good_if_settled (state.Held w) h n = cc
good_if_settled (state.Looked w hit) h n = cc
good_if_settled (state.Published w good) h n = cc
good_if_settled (state.Done true) h n = refl
good_if_settled (state.Done false) h n = cc
good_if_settled state.Skipped h n = cc

all_good_if_settled : (states : List PipState) (inputs : List ℕ) → ((k : ℕ) → k < length inputs → is_settled (state_at states (get_or inputs k 0)) ≡ true)
    → some_bad states inputs ≡ false → all_good states inputs ≡ true
all_good_if_settled states [] h n = refl
all_good_if_settled states (x ∷ xs) h n =
    let parts = or_parts (is_bad (state_at states x)) (some_bad states xs) n in
    and_from (is_done_well (state_at states x)) (all_good states xs)
    (good_if_settled (state_at states x) (h 0 (omega arith)) parts.0)
    (all_good_if_settled states xs (λ k l. h (suc k) (omega (arith, l))) parts.1)

-- a pip that nobody holds, and that may neither start nor be skipped, is settled where its inputs are
settled_if : (x : PipState) (good bad : Bool) → is_none (holder x) ≡ true → (is_waiting x && good) ≡ false → (is_waiting x && bad) ≡ false
    → (bad ≡ false → good ≡ true) → is_settled x ≡ true
settled_if state.Waiting good bad free start skip h = absurd (both_ways good start (h skip))
settled_if (state.Held w) good bad free start skip h = cc
settled_if (state.Looked w hit) good bad free start skip h = cc
settled_if (state.Published w done) good bad free start skip h = cc
settled_if (state.Done done) good bad free start skip h = refl
settled_if state.Skipped good bad free start skip h = refl

free_at : (states : List PipState) → is_idle states ≡ true → (p : ℕ) → is_none (holder (state_at states p)) ≡ true
free_at states idle p = elim (cases_lt p (length states)) [
  | inl l ↦ elim (cases_Bool (is_none (holder (state_at states p)))) [
    | inl free ↦ free
    | inr held ↦ absurd (both_ways (is_idle states) (list_all_at (λ s. is_none (holder s)) states p state.Skipped l held) idle)
  ]
  | inr past ↦ ap (λ s. is_none (holder s)) (get_or_past states p state.Skipped past)
]

settled_below : (s : CoreState) → AreOrdered s.nodes → ((p : ℕ) → may_start s p ≡ false) → ((p : ℕ) → may_skip s p ≡ false)
    → is_idle s.states ≡ true → (n p : ℕ) → p < n → is_settled (state_at s.states p) ≡ true
settled_below s ordered start skip idle zero p l = absurd (omega (arith, l))
settled_below s ordered start skip idle (suc n) p l =
    settled_if (state_at s.states p) (all_good s.states (node_inputs s.nodes p)) (some_bad s.states (node_inputs s.nodes p))
    (free_at s.states idle p) (start p) (skip p)
    (all_good_if_settled s.states (node_inputs s.nodes p)
    (λ k within. settled_below s ordered start skip idle n (get_or (node_inputs s.nodes p) k 0) (omega (arith, ordered p k 0 within, l))))

settled_all : (states : List PipState) → ((p : ℕ) → is_settled (state_at states p) ≡ true) → are_settled states ≡ true
settled_all [] h = refl
settled_all (s ∷ states) h = and_from (is_settled s) (are_settled states) (h 0) (settled_all states (λ p. h (suc p)))

pub ends_settled : (s : CoreState) → EndsSettled s
ends_settled s ordered start skip idle = settled_all s.states (λ p. settled_below s ordered start skip idle (p + 1) p (omega arith))
