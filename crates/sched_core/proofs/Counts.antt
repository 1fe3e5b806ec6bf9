-- How counts over the inputs of a pip change as another pip settles.
use Rattle.std.proofs.Common.{◌≡◌, ℕ, ◌+◌, ◌==◌, ◌<◌, Bool, true, false, not, cond, ◌&&◌, ◌||◌, if◌then◌else◌, List, [], ◌∷◌, length, set, refl, ap, sym, ◌∙◌, arith, inl, inr, zero-add}
use Rattle.std.specs.List.{count_by, list_all, list_any}
use Rattle.std.proofs.lemmas.Bool.{cases_Bool, cases_eq, eq-eqb, ne_eqb}
use Rattle.std.proofs.lemmas.List.Sums.{sum_by-cons}
use Rattle.sched_core.proofs.Places.{state_at-same, state_at-other}
use Rattle.sched_core.specs.Indexes.{missing_of, times}
use Rattle.sched_core.specs.States.{is_bad, is_done_well}
use Rattle.sched_core.specs.Table.{all_good, some_bad, state_at}
use Rattle.sched_core.specs.declared.state.PipState.{PipState}

-- ## Any tests

pub count_split : (f g h : ℕ → Bool) → ((y : ℕ) → cond (f y) 1 0 + cond (h y) 1 0 ≡ cond (g y) 1 0)
    → (xs : List ℕ) → count_by f xs + count_by h xs ≡ count_by g xs
count_split f g h each [] = refl
count_split f g h each (x ∷ xs) = omega (
  arith,
  sum_by-cons (λ y. cond (f y) 1 0) x xs,
  sum_by-cons (λ y. cond (g y) 1 0) x xs,
  sum_by-cons (λ y. cond (h y) 1 0) x xs,
  each x,
  count_split f g h each xs,
)

pub count_same : (f g : ℕ → Bool) → ((y : ℕ) → f y ≡ g y) → (xs : List ℕ) → count_by f xs ≡ count_by g xs
count_same f g each [] = refl
count_same f g each (x ∷ xs) = omega (
  arith,
  sum_by-cons (λ y. cond (f y) 1 0) x xs,
  sum_by-cons (λ y. cond (g y) 1 0) x xs,
  ap {B = ℕ} (λ b. cond b 1 0) (each x),
  count_same f g each xs,
)

or_regroup : (a b c d : Bool) → ((a || b) || (c || d)) ≡ ((a || c) || (b || d))
or_regroup true b c d = refl
or_regroup false true true d = refl
or_regroup false true false d = refl
or_regroup false false c d = refl

pub any_split : (f g h : ℕ → Bool) → ((y : ℕ) → f y ≡ (g y || h y)) → (xs : List ℕ)
    → list_any f xs ≡ (list_any g xs || list_any h xs)
any_split f g h each [] = refl
any_split f g h each (x ∷ xs) =
    ap (λ b. b || list_any f xs) (each x)
    ∙ ap (λ b. (g x || h x) || b) (any_split f g h each xs)
    ∙ or_regroup (g x) (h x) (list_any g xs) (list_any h xs)

pub any_and : (b : Bool) (h : ℕ → Bool) (xs : List ℕ) → list_any (λ y. b && h y) xs ≡ (b && list_any h xs)
any_and true h xs = refl
any_and false h [] = refl
any_and false h (x ∷ xs) = any_and false h xs

or_count : (b : Bool) (n : ℕ) → (b || not (n == 0)) ≡ not ((cond b 1 0 + n) == 0)
or_count true n = ap not (sym (ne_eqb (1 + n) 0 (λ e. omega (arith, e))))
or_count false n = ap (λ k. not (k == 0)) (sym (zero-add n))

-- some item passes a test where the number of those that do is not 0
pub any_is_count : (h : ℕ → Bool) (xs : List ℕ) → list_any h xs ≡ not (count_by h xs == 0)
any_is_count h [] = refl
any_is_count h (x ∷ xs) =
    ap (λ b. h x || b) (any_is_count h xs) ∙ or_count (h x) (count_by h xs)
    ∙ ap (λ k. not (k == 0)) (sym (sum_by-cons (λ y. cond (h y) 1 0) x xs))

and_count : (b : Bool) (n : ℕ) → (b && (n == 0)) ≡ ((cond (not b) 1 0 + n) == 0)
and_count true n = ap (λ k. k == 0) (sym (zero-add n))
and_count false n = sym (ne_eqb (1 + n) 0 (λ e. omega (arith, e)))

-- all items pass a test where the number of those that do not is 0
pub all_is_count : (h : ℕ → Bool) (xs : List ℕ) → list_all h xs ≡ (count_by (λ y. not (h y)) xs == 0)
all_is_count h [] = refl
all_is_count h (x ∷ xs) =
    ap (λ b. h x && b) (all_is_count h xs) ∙ and_count (h x) (count_by (λ y. not (h y)) xs)
    ∙ ap (λ k. k == 0) (sym (sum_by-cons (λ y. cond (not (h y)) 1 0) x xs))

-- ## Inputs

-- all inputs are good where none is missing
pub all_good-is : (states : List PipState) (inputs : List ℕ) → all_good states inputs ≡ (missing_of states inputs == 0)
all_good-is states inputs = all_is_count (λ input. is_done_well (state_at states input)) inputs

good_now : (states : List PipState) (q y : ℕ) (x : PipState) → q < length states → is_done_well (state_at states q) ≡ false
    → is_done_well x ≡ true
    → cond (not (is_done_well (state_at (set states q x) y))) 1 0 + cond (y == q) 1 0 ≡ cond (not (is_done_well (state_at states y))) 1 0
good_now states q y x there before now = elim (cases_eq y q) [
  | inl e ↦
      let new : is_done_well (state_at (set states q x) y) ≡ true =
      ap (λ k. is_done_well (state_at (set states q x) k)) e ∙ ap is_done_well (state_at-same states q x there) ∙ now in
      let old : is_done_well (state_at states y) ≡ false = ap (λ k. is_done_well (state_at states k)) e ∙ before in
      let hit : (y == q) ≡ true = eq-eqb y q e in
      rw (new, old, hit)
  | inr n ↦
      let new : state_at (set states q x) y ≡ state_at states y = state_at-other states q y x n in
      let miss : (y == q) ≡ false = ne_eqb y q n in
      rw (new, miss) (omega arith)
]

-- a pip that completes with success is missing no longer
pub missing-good : (states : List PipState) (q : ℕ) (x : PipState) (inputs : List ℕ) → q < length states
    → is_done_well (state_at states q) ≡ false → is_done_well x ≡ true
    → missing_of (set states q x) inputs + times q inputs ≡ missing_of states inputs
missing-good states q x inputs there before now =
    count_split (λ y. not (is_done_well (state_at (set states q x) y))) (λ y. not (is_done_well (state_at states y))) (λ y. y == q)
    (λ y. good_now states q y x there before now) inputs

same_good : (states : List PipState) (q y : ℕ) (x : PipState) → q < length states → is_done_well x ≡ is_done_well (state_at states q)
    → is_done_well (state_at (set states q x) y) ≡ is_done_well (state_at states y)
same_good states q y x there same = elim (cases_eq y q) [
  | inl e ↦
      ap (λ k. is_done_well (state_at (set states q x) k)) e ∙ ap is_done_well (state_at-same states q x there) ∙ same
      ∙ sym (ap (λ k. is_done_well (state_at states k)) e)
  | inr n ↦ ap is_done_well (state_at-other states q y x n)
]

pub missing-same : (states : List PipState) (q : ℕ) (x : PipState) (inputs : List ℕ) → q < length states
    → is_done_well x ≡ is_done_well (state_at states q) → missing_of (set states q x) inputs ≡ missing_of states inputs
missing-same states q x inputs there same =
    count_same (λ y. not (is_done_well (state_at (set states q x) y))) (λ y. not (is_done_well (state_at states y)))
    (λ y. ap not (same_good states q y x there same)) inputs

-- how many inputs are missing, as a pip that was not good comes to a state
pub missing-set : (states : List PipState) (q : ℕ) (x : PipState) (inputs : List ℕ) → q < length states
    → is_done_well (state_at states q) ≡ false
    → missing_of (set states q x) inputs + (if is_done_well x then times q inputs else 0) ≡ missing_of states inputs
missing-set states q x inputs there before = elim (cases_Bool (is_done_well x)) [
  | inl now ↦ rw now (missing-good states q x inputs there before now)
  | inr not_now ↦ rw not_now (omega (arith, missing-same states q x inputs there (not_now ∙ sym before)))
]

bad_now : (states : List PipState) (q y : ℕ) (x : PipState) → q < length states → is_bad (state_at states q) ≡ false
    → is_bad (state_at (set states q x) y) ≡ (is_bad (state_at states y) || (is_bad x && (y == q)))
bad_now states q y x there before = elim (cases_eq y q) [
  | inl e ↦
      let new : is_bad (state_at (set states q x) y) ≡ is_bad x =
      ap (λ k. is_bad (state_at (set states q x) k)) e ∙ ap is_bad (state_at-same states q x there) in
      let old : is_bad (state_at states y) ≡ false = ap (λ k. is_bad (state_at states k)) e ∙ before in
      let hit : (y == q) ≡ true = eq-eqb y q e in
      rw (new, old, hit) (and_true (is_bad x))
  | inr n ↦
      let new : state_at (set states q x) y ≡ state_at states y = state_at-other states q y x n in
      let miss : (y == q) ≡ false = ne_eqb y q n in
      rw (new, miss) (or_none (is_bad (state_at states y)) (is_bad x))
]
  where
    and_true : (b : Bool) → b ≡ (b && true)
    and_true true = refl
    and_true false = refl

    or_none : (a b : Bool) → a ≡ (a || (b && false))
    or_none true b = refl
    or_none false true = refl
    or_none false false = refl

-- whether an input is bad, as a pip that was not comes to a state
pub some_bad-set : (states : List PipState) (q : ℕ) (x : PipState) (inputs : List ℕ) → q < length states
    → is_bad (state_at states q) ≡ false
    → some_bad (set states q x) inputs ≡ (some_bad states inputs || (is_bad x && not (times q inputs == 0)))
some_bad-set states q x inputs there before =
    any_split (λ y. is_bad (state_at (set states q x) y)) (λ y. is_bad (state_at states y)) (λ y. is_bad x && (y == q))
    (λ y. bad_now states q y x there before) inputs
    ∙ ap (λ b. some_bad states inputs || b) (any_and (is_bad x) (λ y. y == q) inputs)
    ∙ ap (λ b. some_bad states inputs || (is_bad x && b)) (any_is_count (λ y. y == q) inputs)
