-- How a core begins: all pips wait.
use Rattle.std.proofs.Common.{◌≡◌, ◌⊎◌, ℕ, ◌^◌, ◌<◌, Bool, true, false, not, ◌||◌, cond, Option, None, List, [], ◌∷◌, length, get_or, map, replicate, zero, suc, refl, ap, sym, ◌∙◌, arith, inl, inr}
use Rattle.std.specs.List.{list_any, count_by}
use Rattle.std.proofs.lemmas.Bool.{both_ways, cases_lt}
use Rattle.std.proofs.lemmas.List.{length-replicate, get_or-replicate, get_or_past}
use Rattle.std.proofs.lemmas.List.Sums.{sum_by-cons}
use Rattle.sched_core.proofs.Seats.{busy_nobody}
use Rattle.sched_core.specs.Indexes.{AreCounted, AreDependents, AreFlagged, HasSize, KeepsCore, Readiness, missing_of, seat_at}
use Rattle.sched_core.specs.Legal.{all_waiting, initial_state}
use Rattle.sched_core.specs.Sets.{flag_at}
use Rattle.sched_core.specs.Sound.{IsSound}
use Rattle.sched_core.specs.States.{holds, is_bad, is_begun, is_done_well, is_skipped}
use Rattle.sched_core.specs.Table.{AreOrdered, node_inputs, no_node, some_bad, state_at}
use Rattle.sched_core.specs.declared.graph.Node.{Node}
use Rattle.sched_core.specs.declared.state.PipState.{PipState}
use Rattle.sched_core.specs.declared.state.PipState.TheVariants as state

state_of_all : (n p : ℕ) → (state_at (all_waiting n) p ≡ state.Waiting) ⊎ (state_at (all_waiting n) p ≡ state.Skipped)
state_of_all n p = elim (cases_lt p n) [
  | inl l ↦ inl (get_or-replicate n p state.Waiting state.Skipped l)
  | inr past ↦ inr (get_or_past (all_waiting n) p state.Skipped (omega (arith, length-replicate {A = PipState} n state.Waiting, past)))
]

-- a test that a waiting pip and one that is not there fail is failed by all
pub fails_of_all : (f : PipState → Bool) (n p : ℕ) → f state.Waiting ≡ false → f state.Skipped ≡ false → f (state_at (all_waiting n) p) ≡ false
fails_of_all f n p waits skipped = elim (state_of_all n p) [ inl e ↦ ap f e ∙ waits | inr e ↦ ap f e ∙ skipped ]

count_all : (f : ℕ → Bool) (xs : List ℕ) → ((y : ℕ) → f y ≡ true) → count_by f xs ≡ length xs
count_all f [] h = refl
count_all f (x ∷ xs) h = omega (arith, sum_by-cons (λ y. cond (f y) 1 0) x xs, ap {B = ℕ} (λ b. cond b 1 0) (h x), count_all f xs h)

any_none : (f : ℕ → Bool) (xs : List ℕ) → ((k : ℕ) → k < length xs → f (get_or xs k 0) ≡ false) → list_any f xs ≡ false
any_none f [] h = refl
any_none f (x ∷ xs) h = ap (λ b. b || list_any f xs) (h 0 (omega arith)) ∙ any_none f xs (λ k l. h (suc k) (omega (arith, l)))

count_not_good : (n : ℕ) (inputs : List ℕ) → missing_of (all_waiting n) inputs ≡ length inputs
count_not_good n inputs =
    count_all (λ y. not (is_done_well (state_at (all_waiting n) y))) inputs (λ y. ap not (fails_of_all is_done_well n y refl refl))

-- the number of inputs of each pip
abbrev pub input_counts : List Node → List ℕ
input_counts nodes = map (λ (node : Node). length node.inputs) nodes

input_count : (nodes : List Node) (p : ℕ) → get_or (input_counts nodes) p 0 ≡ length (node_inputs nodes p)
input_count [] p = refl
input_count (node ∷ nodes) zero = refl
input_count (node ∷ nodes) (suc p) = input_count nodes p

no_flag : (n p : ℕ) → flag_at (replicate n false) p ≡ false
no_flag n p = elim (cases_lt p n) [
  | inl l ↦ get_or-replicate n p false false l
  | inr past ↦ get_or_past (replicate n false) p false (omega (arith, length-replicate {A = Bool} n false, past))
]

none_bad : (nodes : List Node) → AreOrdered nodes → (p : ℕ) → some_bad (all_waiting (length nodes)) (node_inputs nodes p) ≡ false
none_bad nodes ordered p = any_none (λ input. is_bad (state_at (all_waiting (length nodes)) input)) (node_inputs nodes p) (λ k l. waits k l)
  where
    waits : (k : ℕ) → k < length (node_inputs nodes p) → is_bad (state_at (all_waiting (length nodes)) (get_or (node_inputs nodes p) k 0)) ≡ false
    waits k l = elim (cases_lt p (length nodes)) [
      | inl there ↦ ap is_bad (get_or-replicate (length nodes) (get_or (node_inputs nodes p) k 0) state.Waiting state.Skipped (omega (arith, ordered p k 0 l, there)))
      | inr past ↦
          let none : node_inputs nodes p ≡ [] = ap (λ (node : Node). node.inputs) (get_or_past nodes p no_node past) in
          absurd (omega (arith, l, ap {B = ℕ} length none))
    ]

pub counted_at_first : (nodes : List Node) (r : Readiness) → AreOrdered nodes → r.missing ≡ input_counts nodes
    → r.failed ≡ replicate (length nodes) false → AreCounted nodes (all_waiting (length nodes)) r
counted_at_first nodes r ordered missing failed = record {
  missing = λ p. ap (λ xs. get_or xs p 0) missing ∙ input_count nodes p ∙ sym (count_not_good (length nodes) (node_inputs nodes p));
  failed = λ p. ap (λ xs. flag_at xs p) failed ∙ no_flag (length nodes) p ∙ sym (none_bad nodes ordered p);
}

pub sound_at_first : (nodes : List Node) (workers : ℕ) → IsSound (initial_state nodes workers)
sound_at_first nodes workers = record {
  same_size = length-replicate (length nodes) state.Waiting;
  begun = λ p h. absurd (both_ways (is_begun (state_at (all_waiting (length nodes)) p)) (fails_of_all is_begun (length nodes) p refl refl) h);
  alone = λ p q w a b. absurd (both_ways (holds w (state_at (all_waiting (length nodes)) p)) (fails_of_all (holds w) (length nodes) p refl refl) a);
  stays = λ p w a. absurd (both_ways (holds w (state_at (all_waiting (length nodes)) p)) (fails_of_all (holds w) (length nodes) p refl refl) a);
  skipped = λ p l h.
      let waits : state_at (all_waiting (length nodes)) p ≡ state.Waiting = get_or-replicate (length nodes) p state.Waiting state.Skipped l in
      absurd (both_ways (is_skipped (state_at (all_waiting (length nodes)) p)) (ap is_skipped waits) h);
}

no_seat : (n w : ℕ) → seat_at (replicate n None) w ≡ None
no_seat n w = elim (cases_lt w n) [
  | inl l ↦ get_or-replicate n w None None l
  | inr past ↦ get_or_past (replicate n None) w None (omega (arith, length-replicate {A = Option ℕ} n None, past))
]

pub keeps_at_first : (nodes : List Node) (workers : ℕ) (dependents : List (List ℕ)) (ready : Readiness) → AreOrdered nodes
    → length nodes < 2 ^ 32 → HasSize ready (length nodes) → length dependents ≡ length nodes → AreDependents nodes dependents
    → AreCounted nodes (all_waiting (length nodes)) ready → AreFlagged (all_waiting (length nodes)) ready
    → KeepsCore (initial_state nodes workers) dependents ready (replicate workers None)
keeps_at_first nodes workers dependents ready ordered few size many lists counted flags = record {
  ordered = ordered;
  few = few;
  sound = sound_at_first nodes workers;
  size = size;
  are_dependents = lists;
  dependents_size = many;
  counted = counted;
  flagged = flags;
  are_seats = λ w. no_seat workers w ∙ sym (busy_nobody w (all_waiting (length nodes)) (λ k. fails_of_all (holds w) (length nodes) k refl refl));
  seats_size = length-replicate workers None ∙ sym (length-replicate workers false);
}
