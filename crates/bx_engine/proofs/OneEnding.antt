-- An input ends in one way.
use Rattle.std.proofs.Common.{◌≡◌, ℕ, ◌+◌, Bool, true, false, ◌⊎◌, inl, inr, List, Option, refl, ap, sym, subst, ◌∙◌, arith}
use Rattle.bx_tree.specs.Trees.{Files}
use Rattle.bx_tree.specs.Bundle.{Faults, IsBundle}
use Rattle.bx_tree.specs.declared.bundle.BundleFault.{BundleFault}
use Rattle.bx_tree.specs.declared.bundle.BundleFault.TheVariants as bundle_faults
use Rattle.bx_tree.proofs.OneReading.{one_tree, one_fault, no_fault}
use Rattle.bx_engine_front.proofs.OnePlan.{OneFailure, many_or_fault, many_or_plan, one_fault as one_specification_fault, one_plan_lem, plan_or_fault}
use Rattle.bx_engine_front.specs.Refusals.{Refuses, refusal_of}
use Rattle.bx_engine_front.specs.declared.limits.Limits.{Limits}
use Rattle.build_report.specs.declared.refusal.Refusal.{Refusal}
use Rattle.bx_engine_words.specs.Words.{asks_graphs, workers_in}
use Rattle.bx_engine_words.specs.declared.order.Order.{Order}
use Rattle.build_report.specs.Notes.{notes_text}
use Rattle.build_report.specs.declared.counts.Counts.{Counts}
use Rattle.build_report.specs.declared.counts.GraphLine.{GraphLine}
use Rattle.one_thread.specs.OneThread.{Result, one_thread, run_count, verdicts_of}
use Rattle.pip_model_types.specs.declared.pip.Pip.{Pip}
use Rattle.bx_engine.specs.declared.fault.InputFault.{InputFault}
use Rattle.bx_engine.specs.declared.fault.InputFault.TheVariants as input_faults
use Rattle.bx_engine.specs.Ending.{Ending, InputRefused, SpecificationRefused, Built}
use Rattle.bx_engine.specs.Calls.{StoreChange}
use Rattle.bx_engine.specs.Counting.{CountsOf, HaveSameRuns, IsNoted, NotesOf, TellSameRuns}
use Rattle.bx_engine.specs.Expected.{limits_of}
use Rattle.bx_engine.specs.Graphs.{TellsLineWhere}
use Rattle.bx_engine.specs.Stores.{TellsLine, uses_store}
use Rattle.bx_engine.specs.declared.status.Status.{Status}
use Rattle.bx_engine.specs.Ends.{AreSources, Builds, Ends, HasReserved, IsEndless, RefusesInput}

-- ## Inputs

-- the fault of a bundle that a fault of an input is; being reserved is none
abbrev pub bundle_fault : InputFault → BundleFault
bundle_fault input_faults.BadBundle = bundle_faults.BadBundle
bundle_fault input_faults.BadPath = bundle_faults.BadPath
bundle_fault input_faults.Unordered = bundle_faults.Unordered
bundle_fault input_faults.Nested = bundle_faults.Nested
bundle_fault input_faults.TooManyFiles = bundle_faults.TooManyFiles
bundle_fault input_faults.TooLarge = bundle_faults.TooLarge
bundle_fault input_faults.Reserved = bundle_faults.Memory

abbrev pub input_fault : BundleFault → InputFault
input_fault bundle_faults.BadBundle = input_faults.BadBundle
input_fault bundle_faults.BadPath = input_faults.BadPath
input_fault bundle_faults.Unordered = input_faults.Unordered
input_fault bundle_faults.Nested = input_faults.Nested
input_fault bundle_faults.TooManyFiles = input_faults.TooManyFiles
input_fault bundle_faults.TooLarge = input_faults.TooLarge
input_fault bundle_faults.Memory = input_faults.Reserved

there_and_back : (f : InputFault) → input_fault (bundle_fault f) ≡ f
there_and_back input_faults.BadBundle = refl
there_and_back input_faults.BadPath = refl
there_and_back input_faults.Unordered = refl
there_and_back input_faults.Nested = refl
there_and_back input_faults.TooManyFiles = refl
there_and_back input_faults.TooLarge = refl
there_and_back input_faults.Reserved = refl

-- a refused input has a fault of its bundle, or a reserved file
kinds_of_refusal : (input : List ℕ) (f : InputFault) → RefusesInput input f
    → Faults input (bundle_fault f) ⊎ ((f ≡ input_faults.Reserved) × (sources : Files) × IsBundle input sources × HasReserved sources)
kinds_of_refusal input input_faults.BadBundle h = inl h
kinds_of_refusal input input_faults.BadPath h = inl h
kinds_of_refusal input input_faults.Unordered h = inl h
kinds_of_refusal input input_faults.Nested h = inl h
kinds_of_refusal input input_faults.TooManyFiles h = inl h
kinds_of_refusal input input_faults.TooLarge h = inl h
kinds_of_refusal input input_faults.Reserved h = inr (refl, h.0, h.1, h.2)

one_input_fault : (input : List ℕ) (f g : InputFault) → RefusesInput input f → RefusesInput input g → f ≡ g
one_input_fault input f g h k = elim (kinds_of_refusal input f h) [
  | inl a ↦ elim (kinds_of_refusal input g k) [
    | inl b ↦ sym (there_and_back f) ∙ ap input_fault (one_fault input (bundle_fault f) (bundle_fault g) a b) ∙ there_and_back g
    | inr b ↦ absurd (no_fault input b.1 (bundle_fault f) b.2 a)
  ]
  | inr a ↦ elim (kinds_of_refusal input g k) [
    | inl b ↦ absurd (no_fault input a.1 (bundle_fault g) a.2 b)
    | inr b ↦ a.0 ∙ sym b.0
  ]
]

refused_or_not : (input : List ℕ) (f : InputFault) (sources : Files) → RefusesInput input f → AreSources input sources → ⊥
refused_or_not input f sources h k = elim (kinds_of_refusal input f h) [
  | inl a ↦ no_fault input sources (bundle_fault f) k.bundle a
  | inr a ↦ k.free (subst HasReserved (one_tree input a.1 sources a.2 k.bundle) a.3)
]

-- ## Specifications

pub one_source : (input : List ℕ) (s t : Files) → AreSources input s → AreSources input t → s ≡ t
one_source input s t h k = one_tree input s t h.bundle k.bundle

one_refusal : (one : OneFailure) (limits : Limits) (sources : Files) (r s : Refusal) → Refuses limits sources r → Refuses limits sources s → r ≡ s
one_refusal one limits sources r s h k =
    h.shown ∙ ap refusal_of (one_specification_fault one limits sources h.fault k.fault h.has k.has) ∙ sym k.shown

one_build : (limits : Limits) (sources : Files) (p q : List Pip) (r s : List Result) → Builds limits sources p r → Builds limits sources q s
    → Built p r ≡ Built q s
one_build limits sources p q r s h k =
    let pips = one_plan_lem limits sources p q h.plans k.plans in
    ap (λ (x : List Pip). Built x r) pips
    ∙ ap (λ (x : List Result). Built q x) (h.built ∙ ap (λ (x : List Pip). one_thread x sources limits.tool_budget) pips ∙ sym k.built)

built_or_refused : (one : OneFailure) (limits : Limits) (sources : Files) (pips : List Pip) (results : List Result) (r : Refusal)
    → Builds limits sources pips results → Refuses limits sources r → ⊥
built_or_refused one limits sources pips results r h k = plan_or_fault one limits sources pips k.fault h.plans k.has

-- ## Endings

-- what holds of source files of an input holds of all
same_sources : (P : Files → Type 0) (input : List ℕ) (s t : Files) → AreSources input s → AreSources input t → P s → P t
same_sources P input s t h k p = subst P (one_source input s t h k) p

pub one_ending : (one : OneFailure) (limits : Limits) (input : List ℕ) (d e : Ending) → Ends limits input d → Ends limits input e → d ≡ e
one_ending one limits input (InputRefused f) (InputRefused g) h k = ap InputRefused (one_input_fault input f g h k)
one_ending one limits input (InputRefused f) (SpecificationRefused r) h k = absurd (refused_or_not input f k.0 h k.1)
one_ending one limits input (InputRefused f) (Built pips results) h k = absurd (refused_or_not input f k.0 h k.1)
one_ending one limits input (SpecificationRefused r) (InputRefused g) h k = absurd (refused_or_not input g h.0 k h.1)
one_ending one limits input (SpecificationRefused r) (SpecificationRefused s) h k =
    ap SpecificationRefused
    (one_refusal one limits k.0 r s (same_sources (λ (t : Files). Refuses limits t r) input h.0 k.0 h.1 k.1 h.2) k.2)
one_ending one limits input (SpecificationRefused r) (Built pips results) h k =
    absurd (built_or_refused one limits k.0 pips results r k.2 (same_sources (λ (t : Files). Refuses limits t r) input h.0 k.0 h.1 k.1 h.2))
one_ending one limits input (Built pips results) (InputRefused g) h k = absurd (refused_or_not input g h.0 k h.1)
one_ending one limits input (Built pips results) (SpecificationRefused s) h k =
    absurd (built_or_refused one limits h.0 pips results s h.2 (same_sources (λ (t : Files). Refuses limits t s) input k.0 h.0 k.1 h.1 k.2))
one_ending one limits input (Built p r) (Built q s) h k =
    one_build limits k.0 p q r s (same_sources (λ (t : Files). Builds limits t p r) input h.0 k.0 h.1 k.1 h.2) k.2

pub endless_or_ending : (limits : Limits) (input : List ℕ) (e : Ending) → IsEndless limits input → Ends limits input e → ⊥
unfolding same_sources
endless_or_ending limits input (InputRefused f) h k = refused_or_not input f h.0 k h.1
endless_or_ending limits input (SpecificationRefused r) h k =
    many_or_fault limits h.0 k.2.fault h.2 (same_sources (λ (t : Files). Refuses limits t r) input k.0 h.0 k.1 h.1 k.2).has
endless_or_ending limits input (Built pips results) h k =
    many_or_plan limits h.0 pips h.2 (same_sources (λ (t : Files). Builds limits t pips results) input k.0 h.0 k.1 h.1 k.2).plans

-- ## Notes

-- without a store the processes that are not skipped all run
all_ran : (hits ran n : ℕ) → hits ≡ 0 → hits + ran ≡ n → ran ≡ n
all_ran hits ran n none all = omega (arith, none, all)

no_store_counts : (workers : ℕ) (pips : List Pip) (s t : Files) (budget : ℕ) (results : List Result) (a b : StoreChange) (c d : Counts) (m n : List ℕ)
    → CountsOf false workers pips s budget results a c → CountsOf false workers pips t budget results b d → c.graph ≡ d.graph → m ≡ notes_text c
    → n ≡ notes_text d → HaveSameRuns m n
no_store_counts workers pips s t budget results a b c d m n h k line first second =
    let all = run_count pips (verdicts_of results) in
    let none = h.counted.unused refl in
    let no = k.counted.unused refl in
    record {
      first = c;
      second = d;
      first_is = first;
      second_is = second;
      hits = none.0 ∙ sym no.0;
      ran = all_ran c.hits c.ran all none.0 h.hit_or_ran ∙ sym (all_ran d.hits d.ran all no.0 k.hit_or_ran);
      faults = none.1 ∙ sym no.1;
      graph = line;
    }

-- without a store there is one line at most
line_alone : (order : Order) (input : List ℕ) (g h : Option StoreChange) (pips : List Pip) (a b : Option GraphLine) → uses_store order ≡ false
    → TellsLine order input g pips a → TellsLine order input h pips b → a ≡ b
line_alone order input g h pips a b off first second = by_asks (asks_graphs order) (uses_store order) off first second
  where
    by_asks : (asks cached : Bool) → cached ≡ false → TellsLineWhere asks cached g (limits_of order) input pips a
        → TellsLineWhere asks cached h (limits_of order) input pips b → a ≡ b
    by_asks false cached e first second = first ∙ sym second
    by_asks true false e first second = first ∙ sym second
    by_asks true true e first second = absurd (true_or_false e)
      where
        true_or_false : true ≡ false → ⊥
        true_or_false e = cc

notes_same : (order : Order) (input : List ℕ) (a b : StoreChange) (g h : Option StoreChange) (ending : Ending) (m n : List ℕ) → uses_store order ≡ false
    → NotesOf order input a g ending m → NotesOf order input b h ending n → TellSameRuns m n
notes_same order input a b g h (InputRefused fault) m n off first second = inl (first ∙ sym second)
notes_same order input a b g h (SpecificationRefused refusal) m n off first second = inl (first ∙ sym second)
notes_same order input a b g h (Built pips results) m n off first second =
    let budget = (limits_of order).tool_budget in
    let workers = workers_in order in
    let c : CountsOf false workers pips first.0 budget results a first.2 =
    subst (λ (u : Bool). CountsOf u workers pips first.0 budget results a first.2) off first.3 in
    let d : CountsOf false workers pips second.0 budget results b second.2 =
    subst (λ (u : Bool). CountsOf u workers pips second.0 budget results b second.2) off second.3 in
    inr (no_store_counts workers pips first.0 second.0 budget results a b first.2 second.2 m n c d
    (line_alone order input g h pips first.2.graph second.2.graph off first.4 second.4) first.5 second.5)

pub one_text : (one : OneFailure) (order : Order) (input : List ℕ) (a b : StoreChange) (g h : Option StoreChange) (r s : Status) (m n : List ℕ)
    → uses_store order ≡ false → IsNoted order input a g r m → IsNoted order input b h s n → TellSameRuns m n
one_text one order input a b g h r s m n off first second =
    let e = one_ending one (limits_of order) input first.ending second.ending first.ends second.ends in
    notes_same order input a b g h second.ending m n off (subst (λ (x : Ending). NotesOf order input a g x m) e first.text_is) second.text_is
