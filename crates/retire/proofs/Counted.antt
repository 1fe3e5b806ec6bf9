-- How many hits, misses and faults there are, against the numbers of the processes that the store would spare and the marks of accepted runs.
use Rattle.std.proofs.Common.{◌≡◌, ◌⊎◌, ℕ, ◌+◌, ◌<◌, ◌≤◌, Bool, true, false, cond, List, [], ◌∷◌, ◌++◌, length, Some, refl, sym, ap, ◌∙◌, subst, inl, inr, arith, append_assoc, length-append}
use Rattle.std.specs.Prelude.{slice_get}
use Rattle.std.specs.List.{AllByRecursion}
use Rattle.pip_model_types.specs.declared.pip.Pip.{Pip}
use Rattle.violations.specs.declared.verdict.Verdict.{Verdict}
use Rattle.one_thread.specs.OneThread.{runs}
use Rattle.retire.specs.Accepting.{is_among, others_from, without_run}
use Rattle.retire.specs.Counting.{is_accepted, one_fault, one_hit, one_miss}
use Rattle.retire.specs.declared.taking.Way.{Way}
use Rattle.retire.specs.declared.taking.Way.TheVariants as ways
use Rattle.retire.proofs.Counts.{all_ways, one_run}
use Rattle.retire.proofs.Masks.{among_above, among_below, among_first, among_joined, one_left, one_unmarked, others_more, without_more, without_same}
use Rattle.retire.proofs.Spared.{Tells}

-- ## Numbers below and above

pub all_of : (P Q : ℕ → Type 0) (xs : List ℕ) → ((i : ℕ) → P i → Q i) → AllByRecursion P xs → AllByRecursion Q xs
all_of P Q [] to h = tt
all_of P Q (x ∷ xs) to h = (to x h.0, all_of P Q xs to h.1)

all_last : (P : ℕ → Type 0) (xs : List ℕ) (n : ℕ) → AllByRecursion P xs → P n → AllByRecursion P (xs ++ n ∷ [])
all_last P [] n h last = (last, tt)
all_last P (x ∷ xs) n h last = (h.0, all_last P xs n h.1 last)

-- ## One way

-- what is so of a pip that was decided in this way: whether it runs, and whether it is among the numbers
abbrev Fits : Way → Bool → Bool → Type 0
Fits ways.Plain here among = (here ≡ false) × (among ≡ false)
Fits ways.Accepted here among = Unit {0}
Fits ways.Hit here among = among ≡ true
Fits ways.Ran here among = (here ≡ true) × (among ≡ false)
Fits ways.Faulted here among = here ≡ true

-- so many are left without an accepted run, and so many others
record Within (w o hits missed faulted : ℕ) : Type 0 where
  hits_at_most : hits ≤ w
  hits_at_least : w ≤ hits + faulted
  late_at_least : o ≤ missed + faulted
  late_at_most : missed ≤ o

grow : (way : Way) (here among : Bool) (w o w' o' hits missed faulted : ℕ) → Fits way here among → w' ≡ w + cond among (one_unmarked (is_accepted way)) 0
    → o' ≡ o + one_left here (is_accepted way) among → Within w o hits missed faulted
    → Within w' o' (hits + one_hit way) (missed + one_miss way) (faulted + one_fault way)
grow ways.Plain true among w o w' o' hits missed faulted f e k h = absurd (let never : true ≡ false = f.0 in cc)
grow ways.Plain false true w o w' o' hits missed faulted f e k h = absurd (let never : true ≡ false = f.1 in cc)
grow ways.Plain false false w o w' o' hits missed faulted f e k h = record {
  hits_at_most = omega (arith, e, h.hits_at_most);
  hits_at_least = omega (arith, e, h.hits_at_least);
  late_at_least = omega (arith, k, h.late_at_least);
  late_at_most = omega (arith, k, h.late_at_most);
}
grow ways.Accepted true true w o w' o' hits missed faulted f e k h = record {
  hits_at_most = omega (arith, e, h.hits_at_most);
  hits_at_least = omega (arith, e, h.hits_at_least);
  late_at_least = omega (arith, k, h.late_at_least);
  late_at_most = omega (arith, k, h.late_at_most);
}
grow ways.Accepted true false w o w' o' hits missed faulted f e k h = record {
  hits_at_most = omega (arith, e, h.hits_at_most);
  hits_at_least = omega (arith, e, h.hits_at_least);
  late_at_least = omega (arith, k, h.late_at_least);
  late_at_most = omega (arith, k, h.late_at_most);
}
grow ways.Accepted false true w o w' o' hits missed faulted f e k h = record {
  hits_at_most = omega (arith, e, h.hits_at_most);
  hits_at_least = omega (arith, e, h.hits_at_least);
  late_at_least = omega (arith, k, h.late_at_least);
  late_at_most = omega (arith, k, h.late_at_most);
}
grow ways.Accepted false false w o w' o' hits missed faulted f e k h = record {
  hits_at_most = omega (arith, e, h.hits_at_most);
  hits_at_least = omega (arith, e, h.hits_at_least);
  late_at_least = omega (arith, k, h.late_at_least);
  late_at_most = omega (arith, k, h.late_at_most);
}
grow ways.Hit here false w o w' o' hits missed faulted f e k h = absurd (let never : false ≡ true = f in cc)
grow ways.Hit true true w o w' o' hits missed faulted f e k h = record {
  hits_at_most = omega (arith, e, h.hits_at_most);
  hits_at_least = omega (arith, e, h.hits_at_least);
  late_at_least = omega (arith, k, h.late_at_least);
  late_at_most = omega (arith, k, h.late_at_most);
}
grow ways.Hit false true w o w' o' hits missed faulted f e k h = record {
  hits_at_most = omega (arith, e, h.hits_at_most);
  hits_at_least = omega (arith, e, h.hits_at_least);
  late_at_least = omega (arith, k, h.late_at_least);
  late_at_most = omega (arith, k, h.late_at_most);
}
grow ways.Ran false among w o w' o' hits missed faulted f e k h = absurd (let never : false ≡ true = f.0 in cc)
grow ways.Ran true true w o w' o' hits missed faulted f e k h = absurd (let never : true ≡ false = f.1 in cc)
grow ways.Ran true false w o w' o' hits missed faulted f e k h = record {
  hits_at_most = omega (arith, e, h.hits_at_most);
  hits_at_least = omega (arith, e, h.hits_at_least);
  late_at_least = omega (arith, k, h.late_at_least);
  late_at_most = omega (arith, k, h.late_at_most);
}
grow ways.Faulted false among w o w' o' hits missed faulted f e k h = absurd (let never : false ≡ true = f in cc)
grow ways.Faulted true true w o w' o' hits missed faulted f e k h = record {
  hits_at_most = omega (arith, e, h.hits_at_most);
  hits_at_least = omega (arith, e, h.hits_at_least);
  late_at_least = omega (arith, k, h.late_at_least);
  late_at_most = omega (arith, k, h.late_at_most);
}
grow ways.Faulted true false w o w' o' hits missed faulted f e k h = record {
  hits_at_most = omega (arith, e, h.hits_at_most);
  hits_at_least = omega (arith, e, h.hits_at_least);
  late_at_least = omega (arith, k, h.late_at_least);
  late_at_most = omega (arith, k, h.late_at_most);
}

pub ran_here : (here : Bool) → ◌≡◌ {A = ℕ} (cond here 1 0) 1 → here ≡ true
ran_here true e = refl
ran_here false e = absurd (omega (arith, e))

none_here : (here : Bool) → ◌≡◌ {A = ℕ} (cond here 1 0) 0 → here ≡ false
none_here true e = absurd (omega (arith, e))
none_here false e = refl

fits_there : (P : Type 0) (way : Way) (here : Bool) → Tells P way → all_ways way ≡ cond here 1 0 → P → Fits way here true
fits_there P ways.Plain here tells e p = absurd (tells p)
fits_there P ways.Accepted here tells e p = tt
fits_there P ways.Hit here tells e p = refl
fits_there P ways.Ran here tells e p = absurd (tells p)
fits_there P ways.Faulted here tells e p = ran_here here (sym e)

fits_other : (P : Type 0) (way : Way) (here : Bool) → Tells P way → all_ways way ≡ cond here 1 0 → (P → ⊥) → Fits way here false
fits_other P ways.Plain here tells e p = (none_here here (sym e), refl)
fits_other P ways.Accepted here tells e p = tt
fits_other P ways.Hit here tells e p = absurd (p tells)
fits_other P ways.Ran here tells e p = (ran_here here (sym e), refl)
fits_other P ways.Faulted here tells e p = ran_here here (sym e)

-- ## The first pips

-- The first of the numbers are of pips that are decided, and the others are so.
pub record Counted (pips : List Pip) (vs : List Verdict) (marks : List Bool) (numbers : List ℕ) (Q : List ℕ → Type 0) (hits missed faulted : ℕ) : Type 0 where
  pub first : List ℕ
  pub rest : List ℕ
  pub joined : numbers ≡ first ++ rest
  pub below : AllByRecursion (λ i. i < length marks) first
  pub goes_on : Q rest
  pub hits_at_most : hits ≤ without_run marks first
  pub hits_at_least : without_run marks first ≤ hits + faulted
  pub late_at_least : others_from marks numbers 0 pips vs ≤ missed + faulted
  pub late_at_most : missed ≤ others_from marks numbers 0 pips vs

-- a set of numbers from n on: n and those after it, where the store would spare pip n, and else those after it
abbrev pub Splits : Type 0 → (List ℕ → Type 0) → ℕ → List ℕ → Type 0
Splits P Q n numbers = (P × ((rest : List ℕ) × (numbers ≡ n ∷ rest) × Q rest)) ⊎ ((P → ⊥) × Q numbers)

module _ (P : Type 0) (Q : List ℕ → Type 0) (pips : List Pip) (vs : List Verdict) (v : Verdict) (marks : List Bool) (n : ℕ) (pip : Pip) (way : Way)
    (numbers : List ℕ) (hits missed faulted : ℕ) (long : length vs ≡ n) (marked : length marks ≡ n) (at : slice_get pips n ≡ Some pip)
    (tells : Tells P way) (all : all_ways way ≡ one_run pip.kind v) (above : (rest : List ℕ) → Q rest → AllByRecursion (λ i. n < i) rest) where
  abbrev b : Bool
  b = is_accepted way

  abbrev new_marks : List Bool
  new_marks = marks ++ b ∷ []

  longer : length new_marks ≡ n + 1
  longer = length-append marks (b ∷ []) ∙ ap (λ k. k + 1) marked

  others_now : others_from new_marks numbers 0 pips (vs ++ v ∷ []) ≡ others_from marks numbers 0 pips vs + one_left (runs pip.kind v) b (is_among numbers n)
  others_now =
      others_more marks b numbers 0 pips vs v n pip long at (omega (arith, marked))
      ∙ ap (λ k. others_from marks numbers 0 pips vs + one_left (runs pip.kind v) b (is_among numbers k)) (omega arith)

  below_n : (first : List ℕ) → AllByRecursion (λ i. i < length marks) first → AllByRecursion (λ i. i < n) first
  below_n first h = subst (λ m. AllByRecursion (λ i. i < m) first) marked h

  below_more : (first : List ℕ) → AllByRecursion (λ i. i < length marks) first → AllByRecursion (λ i. i < length new_marks) first
  below_more first h = all_of (λ i. i < length marks) (λ i. i < length new_marks) first (λ i l. omega (arith, l, longer, marked)) h

  within : (c : Counted pips vs marks numbers (Splits P Q n) hits missed faulted)
      → Within (without_run marks c.first) (others_from marks numbers 0 pips vs) hits missed faulted
  within c = record {
    hits_at_most = c.hits_at_most;
    hits_at_least = c.hits_at_least;
    late_at_least = c.late_at_least;
    late_at_most = c.late_at_most;
  }

  others_as : (among : Bool) → is_among numbers n ≡ among
      → others_from new_marks numbers 0 pips (vs ++ v ∷ []) ≡ others_from marks numbers 0 pips vs + one_left (runs pip.kind v) b among
  others_as among e = others_now ∙ ap (λ t. others_from marks numbers 0 pips vs + one_left (runs pip.kind v) b t) e

  spared : (c : Counted pips vs marks numbers (Splits P Q n) hits missed faulted) (rest : List ℕ) → P → c.rest ≡ n ∷ rest → Q rest
      → Counted pips (vs ++ v ∷ []) new_marks numbers Q (hits + one_hit way) (missed + one_miss way) (faulted + one_fault way)
  spared c rest p is q =
      let joined : numbers ≡ c.first ++ n ∷ rest = c.joined ∙ ap (λ (r : List ℕ). c.first ++ r) is in
      let among : is_among numbers n ≡ true =
      ap (λ ns. is_among ns n) joined ∙ among_joined c.first (n ∷ rest) n (among_below c.first n (below_n c.first c.below)) ∙ among_first n rest in
      let without : without_run new_marks (c.first ++ n ∷ []) ≡ without_run marks c.first + one_unmarked b =
      subst (λ m. without_run new_marks (c.first ++ m ∷ []) ≡ without_run marks c.first + one_unmarked b) marked (without_more marks b c.first c.below) in
      let grown =
      grow way (runs pip.kind v) true (without_run marks c.first) (others_from marks numbers 0 pips vs) (without_run new_marks (c.first ++ n ∷ []))
      (others_from new_marks numbers 0 pips (vs ++ v ∷ [])) hits missed faulted (fits_there P way (runs pip.kind v) tells all p) without (others_as true among) (within c) in
      record {
        first = c.first ++ n ∷ [];
        rest = rest;
        joined = joined ∙ sym (append_assoc c.first (n ∷ []) rest);
        below = all_last (λ i. i < length new_marks) c.first n (below_more c.first c.below) (omega (arith, longer));
        goes_on = q;
        hits_at_most = grown.hits_at_most;
        hits_at_least = grown.hits_at_least;
        late_at_least = grown.late_at_least;
        late_at_most = grown.late_at_most;
      }

  other : (c : Counted pips vs marks numbers (Splits P Q n) hits missed faulted) → (P → ⊥) → Q c.rest
      → Counted pips (vs ++ v ∷ []) new_marks numbers Q (hits + one_hit way) (missed + one_miss way) (faulted + one_fault way)
  other c p q =
      let among : is_among numbers n ≡ false =
      ap (λ ns. is_among ns n) c.joined ∙ among_joined c.first c.rest n (among_below c.first n (below_n c.first c.below)) ∙ among_above c.rest n (above c.rest q) in
      let without : without_run new_marks c.first ≡ without_run marks c.first + 0 = without_same marks b c.first c.below ∙ omega arith in
      let grown =
      grow way (runs pip.kind v) false (without_run marks c.first) (others_from marks numbers 0 pips vs) (without_run new_marks c.first)
      (others_from new_marks numbers 0 pips (vs ++ v ∷ [])) hits missed faulted (fits_other P way (runs pip.kind v) tells all p) without (others_as false among) (within c) in
      record {
        first = c.first;
        rest = c.rest;
        joined = c.joined;
        below = below_more c.first c.below;
        goes_on = q;
        hits_at_most = grown.hits_at_most;
        hits_at_least = grown.hits_at_least;
        late_at_least = grown.late_at_least;
        late_at_most = grown.late_at_most;
      }

  -- one pip more
  pub counted_step : Counted pips vs marks numbers (Splits P Q n) hits missed faulted
      → Counted pips (vs ++ v ∷ []) new_marks numbers Q (hits + one_hit way) (missed + one_miss way) (faulted + one_fault way)
  counted_step c = elim c.goes_on [
    | inl a ↦ spared c a.1.0 a.0 a.1.1 a.1.2
    | inr a ↦ other c a.0 a.1
  ]
