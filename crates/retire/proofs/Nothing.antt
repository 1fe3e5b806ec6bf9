-- Where no slot is an accepted run, what a store would spare is left to it.
use Rattle.std.proofs.Common.{◌≡◌, ◌⊎◌, ℕ, zero, suc, ◌+◌, Bool, false, List, [], ◌∷◌, ◌++◌, length, take, Some, refl, sym, ap, ◌∙◌, subst, inl, inr, arith, append_assoc, length-append}
use Rattle.std.specs.Prelude.{slice_get}
use Rattle.std.specs.List.{All, AllByRecursion}
use Rattle.std.proofs.lemmas.Bool.{cases_Bool}
use Rattle.std.proofs.lemmas.List.Sums.{sum_by-cons}
use Rattle.bx_tree.specs.Trees.{Files}
use Rattle.bx_io.specs.Holdings.{Holdings}
use Rattle.pip_model_types.specs.declared.desc.Desc.{Desc}
use Rattle.pip_model_types.specs.declared.pip.Pip.{Pip}
use Rattle.pip_model_types.specs.declared.pip.PipKind.{PipKind}
use Rattle.pip_model_types.specs.declared.pip.PipKind.TheVariants.{Process, Copy, Write, Seal}
use Rattle.observed.specs.declared.ask.Ask.{Ask}
use Rattle.observed.specs.declared.access.Answer.{Answer}
use Rattle.pip_view_inputs.specs.Plain.{kind_process, process_in}
use Rattle.one_thread.specs.OneThread.{Result, inputs_are_good, on_from, one_thread, result_of}
use Rattle.retire_compared.specs.Compared.{desc_after, view_after}
use Rattle.sched_board_slots.specs.Slots.{slot_at}
use Rattle.sched_board_slots.specs.declared.held.Held.{Held}
use Rattle.sched_board_slots.specs.declared.held.Held.TheVariants as held
use Rattle.retire.specs.Accepting.{AreAccepted, IsAccepted, is_marked, without_run}
use Rattle.retire.specs.HitSet.{HitsFrom, IsHitSet, PipHits}
use Rattle.retire.specs.Runs.{RunsAs, results_before}
use Rattle.retire.proofs.Masks.{one_unmarked}
use Rattle.retire.proofs.SoFar.{taken}

-- ## Slots

empty_slot : (slots : List Held) (i : ℕ) → All (λ (slot : Held). slot ≡ held.Empty) slots → (slot_at slots i ≡ held.Empty) ⊎ (slot_at slots i ≡ held.Skipped)
empty_slot [] zero h = inr refl
empty_slot [] (suc i) h = inr refl
empty_slot (s ∷ ss) zero h = inl (h 0 s (omega arith))
empty_slot (s ∷ ss) (suc i) h = empty_slot ss i (λ k d l. h (suc k) d (omega (arith, l)))

pub none_accepted : (slots : List Held) (i : ℕ) (d : Desc) (see : Ask → Answer) → All (λ (slot : Held). slot ≡ held.Empty) slots → IsAccepted d see (slot_at slots i) → ⊥
none_accepted slots i d see h holds = elim (empty_slot slots i h) [
  | inl empty ↦ subst (IsAccepted d see) empty holds
  | inr skipped ↦ subst (IsAccepted d see) skipped holds
]

-- ## Numbers

all_unmarked : (marks : List Bool) (numbers : List ℕ) → AllByRecursion (λ i. is_marked marks i ≡ false) numbers → without_run marks numbers ≡ length numbers
all_unmarked marks [] h = refl
all_unmarked marks (i ∷ rest) h =
    let here : without_run marks (i ∷ rest) ≡ 1 + without_run marks rest =
    sum_by-cons (λ k. one_unmarked (is_marked marks k)) i rest ∙ ap (λ t. one_unmarked t + without_run marks rest) h.0 in
    let more : without_run marks rest ≡ length rest = all_unmarked marks rest h.1 in
    omega (arith, here, more)

get_next : {X : Type 0} (xs ys : List X) (y : X) (i : ℕ) → length xs ≡ i → slice_get (xs ++ y ∷ ys) i ≡ Some y
get_next [] ys y zero e = refl
get_next [] ys y (suc i) e = absurd (omega (arith, e))
get_next (x ∷ xs) ys y zero e = absurd (omega (arith, e))
get_next (x ∷ xs) ys y (suc i) e = get_next xs ys y i (omega (arith, e))

one_longer : {X : Type 0} (xs : List X) (x : X) (i : ℕ) → length xs ≡ i → length (xs ++ x ∷ []) ≡ i + 1
one_longer xs x i e = length-append xs (x ∷ []) ∙ ap (λ n. n + 1) e

module _ (pips : List Pip) (tree : Files) (budget : ℕ) (S : Holdings) (slots : List Held) (marks : List Bool)
    (none : (i : ℕ) (d : Desc) (see : Ask → Answer) → IsAccepted d see (slot_at slots i) → ⊥) (are : AreAccepted pips tree budget slots marks) where
  -- a process that runs has no mark
  unmarked : (i : ℕ) (d : Desc) (see : Ask → Answer) → RunsAs pips tree budget i d see → is_marked marks i ≡ false
  unmarked i d see runs = elim (cases_Bool (is_marked marks i)) [
    | inl marked ↦ absurd (none i d see ((are i d see runs).0 marked))
    | inr other ↦ other
  ]

  -- a process that the store would spare runs
  by_kind : (kind : PipKind) (results : List Result) (i : ℕ) → process_in (slice_get pips i) ≡ kind_process kind → results_before pips tree budget i ≡ results
      → PipHits pips tree budget S results i kind → is_marked marks i ≡ false
  by_kind (Process p) results i process same hits =
      unmarked i (desc_after pips tree budget results p) (view_after pips tree results i p) (record {
        process = p;
        is_process = process;
        is_run = ap (inputs_are_good pips (Process p)) same ∙ hits.0;
        desc_is = ap (λ (rs : List Result). desc_after pips tree budget rs p) same;
        view_is = ap (λ (rs : List Result). view_after pips tree rs i p) same;
      })
  by_kind (Copy p) results i process same hits = absurd hits.1
  by_kind (Write p) results i process same hits = absurd hits.1
  by_kind (Seal p) results i process same hits = absurd hits.1

  unmarked_from : (left : List Pip) (results : List Result) (i : ℕ) (before : List Pip) (numbers : List ℕ) → pips ≡ before ++ left → length before ≡ i
      → length results ≡ i → on_from pips tree budget results i left ≡ one_thread pips tree budget → HitsFrom pips tree budget S results i left numbers
      → AllByRecursion (λ k. is_marked marks k ≡ false) numbers
  unmarked_from [] results i before numbers is long count all h = subst (AllByRecursion (λ k. is_marked marks k ≡ false)) (sym h) tt
  unmarked_from (pip ∷ left) results i before numbers is long count all h =
      let next = result_of pips tree budget results i pip.kind in
      let more : (rest : List ℕ) → HitsFrom pips tree budget S (results ++ next ∷ []) (i + 1) left rest → AllByRecursion (λ k. is_marked marks k ≡ false) rest =
      λ rest k.
      unmarked_from left (results ++ next ∷ []) (i + 1) (before ++ pip ∷ []) rest (is ∙ sym (append_assoc before (pip ∷ []) left)) (one_longer before pip i long)
      (one_longer results next i count) all k in
      elim h [
        | inl a ↦
            subst (AllByRecursion (λ k. is_marked marks k ≡ false)) (sym a.1.1) (
              by_kind pip.kind results i
                  (ap process_in (ap (λ (ps : List Pip). slice_get ps i) is ∙ get_next before left pip i long))
                  (ap (take i) (sym all) ∙ taken pips tree budget (pip ∷ left) results i count) a.0,
              more a.1.0 a.1.2,
            )
        | inr a ↦ more numbers a.1
      ]

  pub none_is_accepted : (numbers : List ℕ) → IsHitSet pips tree budget S numbers → without_run marks numbers ≡ length numbers
  none_is_accepted numbers set = all_unmarked marks numbers (unmarked_from pips [] 0 [] numbers refl refl refl refl set)
