-- Slots that agree with one another hold what the sequential build gives.
use Rattle.std.proofs.Common.{◌≡◌, ◌⊎◌, ℕ, zero, suc, ◌+◌, ◌<◌, Bool, true, false, cond, List, [], ◌∷◌, length, map, get_or, take, Option, Some, None, refl, ap, sym, ◌∙◌, subst, inl, inr, arith}
use Rattle.std.specs.Prelude.{slice_get}
use Rattle.std.specs.List.{list_any}
use Rattle.std.proofs.lemmas.Bool.{and_parts, both_ways, cases_Bool, or_cases}
use Rattle.std.proofs.lemmas.List.{length-map}
use Rattle.std.proofs.lemmas.Option.{get_or_from_slice_get, slice_get_within, same_Some}
use Rattle.bx_tree.specs.Members.{Has}
use Rattle.bx_tree.specs.Paths.{Atoms}
use Rattle.bx_tree.specs.Trees.{Files}
use Rattle.bx_tree.proofs.Members.{passes_all}
use Rattle.bx_io.specs.Holdings.{Holdings}
use Rattle.pip_model_types.specs.Makers.{IsPipList}
use Rattle.pip_model_types.specs.declared.pip.Pip.{Pip}
use Rattle.pip_model_types.specs.declared.pip.PipKind.{PipKind}
use Rattle.pip_model_types.specs.declared.pip.PipKind.TheVariants.{Process, Copy, Write, Seal}
use Rattle.pip_model_types.specs.declared.pip.ProcessDesc.{ProcessDesc}
use Rattle.pip_model.specs.Edges.{targets}
use Rattle.pip_model.specs.Plans.{PlanData}
use Rattle.pip_view_inputs.specs.Plain.{kind_process, plain_in, plain_of, process_in}
use Rattle.pip_view_inputs.specs.Results.{ByPip, kind_inputs}
use Rattle.run_record.specs.Collisions.{NoCollision, contents_of}
use Rattle.run_record.specs.Facts.{Facts}
use Rattle.run_record.specs.Holding.{HoldsNow}
use Rattle.memo_format.specs.Found.{FoundParts}
use Rattle.run_record.specs.declared.outcome.Cause.{Cause}
use Rattle.run_record.specs.declared.outcome.Cause.TheVariants as causes
use Rattle.run_record.specs.declared.outcome.Outcome.{Outcome}
use Rattle.run_record.specs.declared.outcome.Outcome.TheVariants.{Good, Failed}
use Rattle.two_phase_meaning.specs.Honest.{Honest}
use Rattle.two_phase_meaning.specs.Saving.{outcome_files}
use Rattle.violations.specs.Classes.{class_of}
use Rattle.violations.specs.DoubleWrites.{clash_at, first_clash, least_clash, or_next, outdirs_in, shared_paths}
use Rattle.violations.specs.Verdicts.{is_skip, is_success, with_pip}
use Rattle.violations.specs.declared.verdict.DeedKind.TheVariants as deeds
use Rattle.violations.specs.declared.verdict.Verdict.TheVariants as verdicts
use Rattle.violations.specs.declared.verdict.Violation.{Violation}
use Rattle.violations.specs.declared.verdict.ViolationKind.TheVariants as violations
use Rattle.one_thread.specs.OneThread.{Result, by_cause, by_outcome, failed, inputs_are_good, is_good, made_by, result_of, succeeded, unless_clash, violated, worked}
use Rattle.one_thread.proofs.EachResult.{number_of_results, result_of_all}
use Rattle.one_thread.proofs.NotSkipped.{outcome_ran}
use Rattle.retire_compared.specs.Compared.{inputs_after}
use Rattle.sched_core.specs.Sound.{IsSound}
use Rattle.sched_core.specs.States.{is_bad, is_begun, is_done_well, is_settled, is_skipped}
use Rattle.sched_core.specs.Table.{CoreState, all_good, are_settled, node_inputs, state_at}
use Rattle.sched_core.specs.declared.state.PipState.{PipState}
use Rattle.sched_core.specs.declared.state.PipState.TheVariants as state
use Rattle.sched_board_slots.specs.Closing.{ComparedWithSlots, FailsByDoubleWrite, FollowsSequential, HitsAreOf, IsNotSkipped, IsOfSlot, IsResultOf, held_outcome, sequential, sequential_desc, sequential_outcome, sequential_view}
use Rattle.sched_board_slots.specs.Closing as closing
use Rattle.sched_board_slots.specs.Graphs.{IsGraphOf}
use Rattle.sched_board_slots.specs.Slots.{AllFit, FilesAgree, FitsState, HoldsOwn, IsOwnFound, IsOwnPlain, IsOwnRecord, held_files, is_good_outcome, own_inputs, slot_at}
use Rattle.sched_board_slots.specs.declared.held.Held.{Held}
use Rattle.sched_board_slots.specs.declared.held.Held.TheVariants as held
use Rattle.sched_board_slots.proofs.Inputs.{files_at, input_below, is_target, same_inputs}
use Rattle.sched_board_slots.proofs.SlotRuns.{hit_outcome, plain_files, ran_outcome}
use Rattle.sched_board_slots.proofs.Accepted.{run_is_accepted}

-- ## Outcomes

-- an outcome that is a success has its files
good_files : (o : Outcome) → is_good_outcome o ≡ true → o ≡ Good (outcome_files o)
good_files (Good files) e = refl
good_files (Failed cause) e = cc

failed_cause : (o : Outcome) → is_good_outcome o ≡ false → (cause : Cause) × (o ≡ Failed cause)
failed_cause (Good files) e = absurd cc
failed_cause (Failed cause) e = (cause, refl)

same_good : (a b : Files) → Good a ≡ Good b → b ≡ a
same_good a b e = cc

never_good : (cause : Cause) (files : Files) → Failed cause ≡ Good files → ⊥
never_good cause files e = absurd cc

-- ## Results

unclashed : (files : Files) (clash : Option Violation) → is_success (unless_clash files clash).verdict ≡ true → (unless_clash files clash).files ≡ files
unclashed files None e = refl
unclashed files (Some violation) e = cc

violated_fails : (found : Option Violation) → is_success (violated found).verdict ≡ false
violated_fails None = refl
violated_fails (Some violation) = refl

cause_fails : (pips : List Pip) (tree : Files) (i : ℕ) (cause : Cause) → is_success (by_cause pips tree i cause).verdict ≡ false
cause_fails pips tree i (causes.Exit code) = refl
cause_fails pips tree i (causes.Tool end) = refl
cause_fails pips tree i (causes.MissingOutput path) = refl
cause_fails pips tree i (causes.Denied access) = violated_fails (class_of pips tree i access)

-- a clash is a double write
next_is : (path : Atoms) (least : Option ℕ) (next : Option Violation) (violation : Violation)
    → (next ≡ Some violation → violation.kind ≡ violations.DoubleWrite) → or_next path least next ≡ Some violation → violation.kind ≡ violations.DoubleWrite
next_is path None next violation rest e = rest e
next_is path (Some j) next violation rest e =
    let same : with_pip violations.DoubleWrite deeds.Write path j ≡ violation = same_Some (with_pip violations.DoubleWrite deeds.Write path j) violation e in
    ap (λ (v : Violation). v.kind) (sym same)

clash_is : (paths : List Atoms) (before : List Pip) (made : List Files) (violation : Violation) → first_clash paths before made ≡ Some violation
    → violation.kind ≡ violations.DoubleWrite
clash_is [] before made violation e = cc
clash_is (path ∷ paths) before made violation e =
    next_is path (least_clash path 0 before made) (first_clash paths before made) violation (clash_is paths before made violation) e

by_clash : (files : Files) (clash : Option Violation) → ((violation : Violation) → clash ≡ Some violation → violation.kind ≡ violations.DoubleWrite)
    → (unless_clash files clash ≡ succeeded files) ⊎ FailsByDoubleWrite (unless_clash files clash)
by_clash files None is = inl refl
by_clash files (Some violation) is = inr (violation, refl, is violation refl)

some_result : (o : Option Result) → is_good o ≡ true → (r : Result) × (o ≡ Some r) × (is_success r.verdict ≡ true)
some_result None e = absurd cc
some_result (Some r) e = (r, refl, e)

-- a test that some member passes
some_member : (p : ℕ → Bool) (js : List ℕ) → list_any p js ≡ true → (j : ℕ) × Has js j × (p j ≡ true)
some_member p [] e = absurd cc
some_member p (j ∷ js) e = elim (or_cases (p j) (list_any p js) e) [
  | inl here ↦ (j, inl refl, here)
  | inr more ↦ let rest = some_member p js more in (rest.0, inr rest.1, rest.2)
]

-- ## Slots by states

held_good : (plan : PlanData) (tree : Files) (slots : List Held) (j : ℕ) (h : Held) → HoldsOwn plan tree slots j true h → held_outcome h ≡ Some (Good (held_files h))
held_good plan tree slots j held.Empty own = absurd own
held_good plan tree slots j (held.Ran facts) own = ap Some (good_files facts.outcome own.0)
held_good plan tree slots j (held.Hit found) own = refl
held_good plan tree slots j (held.Plain made) own = refl
held_good plan tree slots j held.Skipped own = absurd own

held_failed : (plan : PlanData) (tree : Files) (slots : List Held) (j : ℕ) (h : Held) → HoldsOwn plan tree slots j false h
    → (cause : Cause) × (held_outcome h ≡ Some (Failed cause))
held_failed plan tree slots j held.Empty own = absurd own
held_failed plan tree slots j (held.Ran facts) own = let c = failed_cause facts.outcome own.0 in (c.0, ap Some c.1)
held_failed plan tree slots j (held.Hit found) own = let no_hit : false ≡ true = own.0 in absurd cc
held_failed plan tree slots j (held.Plain made) own = let no_files : false ≡ true = own.0 in absurd cc
held_failed plan tree slots j held.Skipped own = absurd own

-- the slot of a pip that completed with success
done_slot : (plan : PlanData) (tree : Files) (slots : List Held) (j : ℕ) (h : Held) (s : PipState) → is_done_well s ≡ true → FitsState plan tree slots j s h
    → HoldsOwn plan tree slots j true h
done_slot plan tree slots j h state.Waiting e f = absurd cc
done_slot plan tree slots j h (state.Held w) e f = absurd cc
done_slot plan tree slots j h (state.Looked w hit) e f = absurd cc
done_slot plan tree slots j h (state.Published w good) e f = absurd cc
done_slot plan tree slots j h (state.Done good) e f = subst (λ (g : Bool). HoldsOwn plan tree slots j g h) e f
done_slot plan tree slots j h state.Skipped e f = absurd cc

-- the slot of a pip that completed without success, or that the pip was skipped
bad_slot : (plan : PlanData) (tree : Files) (slots : List Held) (j : ℕ) (h : Held) (s : PipState) → is_bad s ≡ true → FitsState plan tree slots j s h
    → (s ≡ state.Skipped) ⊎ HoldsOwn plan tree slots j false h
bad_slot plan tree slots j h state.Waiting e f = absurd cc
bad_slot plan tree slots j h (state.Held w) e f = absurd cc
bad_slot plan tree slots j h (state.Looked w hit) e f = absurd cc
bad_slot plan tree slots j h (state.Published w good) e f = absurd cc
bad_slot plan tree slots j h (state.Done true) e f = absurd cc
bad_slot plan tree slots j h (state.Done false) e f = inr f
bad_slot plan tree slots j h state.Skipped e f = inl refl

-- a slot that is filled is that of a pip that was started, and agrees
record IsFilled (plan : PlanData) (tree : Files) (slots : List Held) (i : ℕ) (h : Held) (s : PipState) : Type 0 where
  good : Bool
  own : HoldsOwn plan tree slots i good h
  begun : is_begun s ≡ true

not_empty : (h : Held) (o : Outcome) → held_outcome h ≡ Some o → h ≡ held.Empty → ⊥
not_empty h o e is = let none : None ≡ Some o = subst (λ (x : Held). held_outcome x ≡ Some o) is e in absurd cc

not_skipped : (h : Held) (o : Outcome) → held_outcome h ≡ Some o → h ≡ held.Skipped → ⊥
not_skipped h o e is = let none : None ≡ Some o = subst (λ (x : Held). held_outcome x ≡ Some o) is e in absurd cc

filled : (plan : PlanData) (tree : Files) (slots : List Held) (i : ℕ) (h : Held) (s : PipState) (o : Outcome) → held_outcome h ≡ Some o
    → FitsState plan tree slots i s h → IsFilled plan tree slots i h s
filled plan tree slots i h state.Waiting o e f = absurd (not_empty h o e f)
filled plan tree slots i h (state.Held w) o e f = absurd (not_empty h o e f)
filled plan tree slots i h (state.Looked w hit) o e f = absurd (not_empty h o e f)
filled plan tree slots i h (state.Published w good) o e f = record { good = good; own = f; begun = refl }
filled plan tree slots i h (state.Done good) o e f = record { good = good; own = f; begun = refl }
filled plan tree slots i h state.Skipped o e f = absurd (not_skipped h o e f)

-- ## Places

some_at : {X : Type 0} (xs : List X) (j : ℕ) → j < length xs → (x : X) × (slice_get xs j ≡ Some x)
some_at [] j l = absurd (omega (arith, l))
some_at (x ∷ xs) zero l = (x, refl)
some_at (x ∷ xs) (suc j) l = some_at xs j (omega (arith, l))

made_at : (rs : List Result) (k : ℕ) (r : Result) → slice_get rs k ≡ Some r → slice_get (made_by rs) k ≡ Some r.files
made_at [] k r e = absurd cc
made_at (x ∷ xs) zero r e = ap (λ (y : Result). Some y.files) (same_Some x r e)
made_at (x ∷ xs) (suc k) r e = made_at xs k r e

-- ## All slots

-- what is to be shown of each pip
record At (plan : PlanData) (tree : Files) (core : CoreState) (slots : List Held) (i : ℕ) : Type 0 where
  outcome : (pip : Pip) (o : Outcome) → slice_get plan.pips i ≡ Some pip → IsNotSkipped plan tree pip.kind → held_outcome (slot_at slots i) ≡ Some o
      → o ≡ sequential_outcome plan tree i pip.kind
  skipped : (r : Result) → slice_get (sequential plan tree) i ≡ Some r → state_at core.states i ≡ state.Skipped → r.verdict ≡ verdicts.Skipped

module _ (plan : PlanData) (tree : Files) (core : CoreState) (slots : List Held) (list : IsPipList plan.pips) (graph : IsGraphOf plan core.nodes)
    (sound : IsSound core) (size : length slots ≡ length plan.pips) (fit : AllFit plan tree core.states slots) (S : Holdings) (honest : Honest S)
    (hits : HitsAreOf S slots) (apart : NoCollision (ComparedWithSlots plan tree S slots)) where
  abbrev M : List ℕ → Type 0
  M = ComparedWithSlots plan tree S slots

  abbrev all : List Result
  all = sequential plan tree

  -- what a pip comes to whose inputs succeeded
  abbrev works : ℕ → PipKind → Result
  works i kind = worked plan.pips tree plan.tool_budget (made_by all) (inputs_after plan.pips kind all) i kind

  result_is : (i : ℕ) (pip : Pip) (r : Result) → slice_get plan.pips i ≡ Some pip → slice_get all i ≡ Some r
      → r ≡ cond (inputs_are_good plan.pips pip.kind all) (works i pip.kind) (failed verdicts.Skipped)
  result_is i pip r at has =
      same_Some r (result_of plan.pips tree plan.tool_budget all i pip.kind) (sym has ∙ result_of_all plan.pips tree plan.tool_budget i pip list at)

  -- a pip with a good result was not skipped, and its result is that of its work
  works_if_good : (i : ℕ) (pip : Pip) (r : Result) → slice_get plan.pips i ≡ Some pip → slice_get all i ≡ Some r → is_success r.verdict ≡ true
      → IsNotSkipped plan tree pip.kind × (r ≡ works i pip.kind)
  works_if_good i pip r at has success = elim (cases_Bool (inputs_are_good plan.pips pip.kind all)) [
    | inl going ↦ (going, result_is i pip r at has ∙ ap (λ t. cond t (works i pip.kind) (failed verdicts.Skipped)) going)
    | inr bad ↦
        let skipped : r ≡ failed verdicts.Skipped = result_is i pip r at has ∙ ap (λ t. cond t (works i pip.kind) (failed verdicts.Skipped)) bad in
        absurd (both_ways (is_success r.verdict) (ap (λ (x : Result). is_success x.verdict) skipped) success)
  ]

  -- the files of a good result, where the outcome is known
  work_files : (i : ℕ) (kind : PipKind) (files : Files) → Good files ≡ sequential_outcome plan tree i kind → is_success (works i kind).verdict ≡ true
      → (works i kind).files ≡ files
  work_files i (Process d) files e success =
      let as_good : works i (Process d) ≡ unless_clash files (clash_at plan.pips (made_by all) i files) = ap (by_outcome plan.pips tree (made_by all) i) (sym e) in
      ap (λ (r : Result). r.files) as_good
      ∙ unclashed files (clash_at plan.pips (made_by all) i files) (ap (λ (r : Result). is_success r.verdict) (sym as_good) ∙ success)
  work_files i (Copy d) files e success = same_good files (works i (Copy d)).files e
  work_files i (Write d) files e success = same_good files (works i (Write d)).files e
  work_files i (Seal d) files e success = same_good files (works i (Seal d)).files e

  -- a pip whose outcome is a failure fails
  work_fails : (i : ℕ) (kind : PipKind) (cause : Cause) → Failed cause ≡ sequential_outcome plan tree i kind → is_success (works i kind).verdict ≡ false
  work_fails i (Process d) cause e =
      let as_failed : works i (Process d) ≡ by_cause plan.pips tree i cause = ap (by_outcome plan.pips tree (made_by all) i) (sym e) in
      ap (λ (r : Result). is_success r.verdict) as_failed ∙ cause_fails plan.pips tree i cause
  work_fails i (Copy d) cause e = absurd (never_good cause (works i (Copy d)).files e)
  work_fails i (Write d) cause e = absurd (never_good cause (works i (Write d)).files e)
  work_fails i (Seal d) cause e = absurd (never_good cause (works i (Seal d)).files e)

  -- ## One pip, where all before it are as shown

  pip_at : (j : ℕ) → j < length plan.pips → (pip : Pip) × (slice_get plan.pips j ≡ Some pip)
  pip_at j l = some_at plan.pips j l

  result_at : (j : ℕ) → j < length plan.pips → (r : Result) × (slice_get all j ≡ Some r)
  result_at j l =
      let p = pip_at j l in
      (result_of plan.pips tree plan.tool_budget all j p.0.kind, result_of_all plan.pips tree plan.tool_budget j p.0 list p.1)

  -- the files of an input are those of its slot
  input_files : (i j : ℕ) (pip : Pip) → slice_get plan.pips i ≡ Some pip → IsNotSkipped plan tree pip.kind
      → all_good core.states (node_inputs core.nodes i) ≡ true → ((k : ℕ) → k < i → At plan tree core slots k) → Has (node_inputs core.nodes i) j
      → get_or (map held_files slots) j [] ≡ get_or (made_by all) j []
  input_files i j pip at good begun before h =
      let l : i < length plan.pips = slice_get_within plan.pips i pip at in
      let less : j < i = input_below plan core.nodes list graph i j l h in
      let p = pip_at j (omega (arith, less, l)) in
      let target : Has (targets plan.pips pip.kind) j = is_target plan core.nodes list graph i j pip l at h in
      let result = some_result (slice_get all j) (passes_all (λ k. is_good (slice_get all k)) (targets plan.pips pip.kind) j good target) in
      let done : is_done_well (state_at core.states j) ≡ true = passes_all (λ k. is_done_well (state_at core.states k)) (node_inputs core.nodes i) j begun h in
      let slot : held_outcome (slot_at slots j) ≡ Some (Good (held_files (slot_at slots j))) =
      held_good plan tree slots j (slot_at slots j) (done_slot plan tree slots j (slot_at slots j) (state_at core.states j) done (fit j)) in
      let work = works_if_good j p.0 result.0 p.1 result.1 result.2 in
      let outcome : Good (held_files (slot_at slots j)) ≡ sequential_outcome plan tree j p.0.kind = (before j less).outcome p.0 (Good (held_files (slot_at slots j))) p.1 work.0 slot in
      let files : result.0.files ≡ held_files (slot_at slots j) =
      ap (λ (r : Result). r.files) work.1
      ∙ work_files j p.0.kind (held_files (slot_at slots j)) outcome (ap (λ (r : Result). is_success r.verdict) (sym work.1) ∙ result.2) in
      files_at slots j ∙ sym files
      ∙ sym (get_or_from_slice_get (made_by all) j result.0.files [] (made_at all j result.0 result.1))

  -- so the pip is given what the sequential build gives it
  own_is : (i : ℕ) (pip : Pip) → slice_get plan.pips i ≡ Some pip → IsNotSkipped plan tree pip.kind
      → all_good core.states (node_inputs core.nodes i) ≡ true → ((k : ℕ) → k < i → At plan tree core slots k)
      → own_inputs plan slots i ≡ inputs_after plan.pips pip.kind all
  own_is i pip at good begun before =
      let l : i < length plan.pips = slice_get_within plan.pips i pip at in
      same_inputs plan core.nodes list graph i (map held_files slots) (made_by all) l
      (omega (arith, l, size, length-map slots held_files))
      (omega (arith, l, length-map all (λ (r : Result). r.files), number_of_results plan.pips tree plan.tool_budget))
      (λ j h. input_files i j pip at good begun before h)
      ∙ ap (λ (o : Option Pip). kind_inputs plan.pips o (made_by all)) at

  slot_of : (i : ℕ) (h : Held) → slot_at slots i ≡ h → (x : List ℕ) → IsOfSlot h x → M x
  slot_of i h e x k = closing.slot i (subst (λ (s : Held). IsOfSlot s x) (sym e) k)

  own_plain_files : (i : ℕ) (kind : PipKind) (pip : Pip) (made : Files) → slice_get plan.pips i ≡ Some pip → pip.kind ≡ kind → slot_at slots i ≡ held.Plain made
      → own_inputs plan slots i ≡ inputs_after plan.pips kind all → works i kind ≡ succeeded (plain_of tree (inputs_after plan.pips kind all) kind)
      → IsNotSkipped plan tree kind → FilesAgree made (plain_in tree (own_inputs plan slots i) (slice_get plan.pips i))
      → made ≡ plain_of tree (inputs_after plan.pips kind all) kind
  own_plain_files i kind pip made at is slot inputs plain good agrees =
      let own : Files = plain_of tree (inputs_after plan.pips kind all) kind in
      let l : i < length plan.pips = slice_get_within plan.pips i pip at in
      let r = result_at i l in
      let result : r.0 ≡ succeeded own =
      result_is i pip r.0 at r.1
      ∙ ap (λ (k : PipKind). cond (inputs_are_good plan.pips k all) (works i k) (failed verdicts.Skipped)) is
      ∙ ap (λ t. cond t (works i kind) (failed verdicts.Skipped)) good ∙ plain in
      let same : FilesAgree made own =
      subst (λ (ins : ByPip). FilesAgree made (plain_of tree ins kind)) inputs
      (subst (λ (k : PipKind). FilesAgree made (plain_of tree (own_inputs plan slots i) k)) is
      (subst (λ (o : Option Pip). FilesAgree made (plain_in tree (own_inputs plan slots i) o)) at agrees)) in
      plain_files M apart made own same (λ x h. slot_of i (held.Plain made) slot x h)
      (λ x h. closing.made i r.0 r.1 (subst (λ (fs : Files). Has (contents_of fs) x) (sym (ap (λ (y : Result). y.files) result)) h))

  -- what a filled slot says of a pip that is no process
  by_plain : (i : ℕ) (kind : PipKind) (pip : Pip) (h : Held) (good : Bool) (o : Outcome) → slice_get plan.pips i ≡ Some pip → pip.kind ≡ kind
      → slot_at slots i ≡ h → held_outcome h ≡ Some o → own_inputs plan slots i ≡ inputs_after plan.pips kind all → IsNotSkipped plan tree kind
      → HoldsOwn plan tree slots i good h → kind_process kind ≡ None → works i kind ≡ succeeded (plain_of tree (inputs_after plan.pips kind all) kind)
      → sequential_outcome plan tree i kind ≡ Good (plain_of tree (inputs_after plan.pips kind all) kind) → o ≡ sequential_outcome plan tree i kind
  by_plain i kind pip held.Empty good o at is slot e inputs going own none plain outcome = absurd own
  by_plain i kind pip (held.Ran facts) good o at is slot e inputs going own none plain outcome =
      let process : process_in (slice_get plan.pips i) ≡ None = ap process_in at ∙ ap kind_process is ∙ none in
      absurd (subst (λ (p : Option ProcessDesc). IsOwnRecord plan tree (own_inputs plan slots i) i facts p) process own.1)
  by_plain i kind pip (held.Hit found) good o at is slot e inputs going own none plain outcome =
      let process : process_in (slice_get plan.pips i) ≡ None = ap process_in at ∙ ap kind_process is ∙ none in
      absurd (subst (λ (p : Option ProcessDesc). IsOwnFound plan tree (own_inputs plan slots i) i found p) process own.1)
  by_plain i kind pip (held.Plain made) good o at is slot e inputs going own none plain outcome =
      let process : process_in (slice_get plan.pips i) ≡ None = ap process_in at ∙ ap kind_process is ∙ none in
      let agrees : FilesAgree made (plain_in tree (own_inputs plan slots i) (slice_get plan.pips i)) =
      subst (λ (p : Option ProcessDesc). IsOwnPlain plan tree (own_inputs plan slots i) i made p) process own.1 in
      same_Some o (Good made) (sym e) ∙ ap Good (own_plain_files i kind pip made at is slot inputs plain going agrees) ∙ sym outcome
  by_plain i kind pip held.Skipped good o at is slot e inputs going own none plain outcome = absurd own

  -- what a filled slot of a pip of this kind says
  by_kind : (i : ℕ) (kind : PipKind) (pip : Pip) (h : Held) (good : Bool) (o : Outcome) → slice_get plan.pips i ≡ Some pip → pip.kind ≡ kind
      → slot_at slots i ≡ h → held_outcome h ≡ Some o → own_inputs plan slots i ≡ inputs_after plan.pips kind all → IsNotSkipped plan tree kind
      → HoldsOwn plan tree slots i good h → o ≡ sequential_outcome plan tree i kind
  by_kind i (Process d) pip held.Empty good o at is slot e inputs going own = absurd own
  by_kind i (Process d) pip (held.Ran facts) good o at is slot e inputs going own =
      let process : process_in (slice_get plan.pips i) ≡ Some d = ap process_in at ∙ ap kind_process is in
      let mine : IsOwnRecord plan tree (own_inputs plan slots i) i facts (Some d) =
      subst (λ (p : Option ProcessDesc). IsOwnRecord plan tree (own_inputs plan slots i) i facts p) process own.1 in
      let on : IsOwnRecord plan tree (inputs_after plan.pips (Process d) all) i facts (Some d) =
      subst (λ (ins : ByPip). IsOwnRecord plan tree ins i facts (Some d)) inputs mine in
      same_Some o facts.outcome (sym e)
      ∙ ran_outcome M apart (sequential_desc plan tree d) (sequential_view plan tree i d) facts on.0 on.1 on.2 on.3
      (slot_of i (held.Ran facts) slot) (λ x k. closing.run i pip d at is going k)
  by_kind i (Process d) pip (held.Hit found) good o at is slot e inputs going own =
      let process : process_in (slice_get plan.pips i) ≡ Some d = ap process_in at ∙ ap kind_process is in
      let mine : IsOwnFound plan tree (own_inputs plan slots i) i found (Some d) =
      subst (λ (p : Option ProcessDesc). IsOwnFound plan tree (own_inputs plan slots i) i found p) process own.1 in
      let on : IsOwnFound plan tree (inputs_after plan.pips (Process d) all) i found (Some d) =
      subst (λ (ins : ByPip). IsOwnFound plan tree ins i found (Some d)) inputs mine in
      same_Some o (Good found.made) (sym e)
      ∙ hit_outcome M apart S honest (λ x k. closing.build (inl k)) (sequential_desc plan tree d) (sequential_view plan tree i d) found (hits i found slot) on.0 on.1
      (slot_of i (held.Hit found) slot) (λ x k. closing.run i pip d at is going k)
  by_kind i (Process d) pip (held.Plain made) good o at is slot e inputs going own =
      let process : process_in (slice_get plan.pips i) ≡ Some d = ap process_in at ∙ ap kind_process is in
      absurd (subst (λ (p : Option ProcessDesc). IsOwnPlain plan tree (own_inputs plan slots i) i made p) process own.1)
  by_kind i (Process d) pip held.Skipped good o at is slot e inputs going own = absurd own
  by_kind i (Copy d) pip h good o at is slot e inputs going own = by_plain i (Copy d) pip h good o at is slot e inputs going own refl refl refl
  by_kind i (Write d) pip h good o at is slot e inputs going own = by_plain i (Write d) pip h good o at is slot e inputs going own refl refl refl
  by_kind i (Seal d) pip h good o at is slot e inputs going own = by_plain i (Seal d) pip h good o at is slot e inputs going own refl refl refl

  slot_outcome : (i : ℕ) → ((k : ℕ) → k < i → At plan tree core slots k) → (pip : Pip) (o : Outcome) → slice_get plan.pips i ≡ Some pip → IsNotSkipped plan tree pip.kind
      → held_outcome (slot_at slots i) ≡ Some o → o ≡ sequential_outcome plan tree i pip.kind
  slot_outcome i before pip o at going e =
      let is = filled plan tree slots i (slot_at slots i) (state_at core.states i) o e (fit i) in
      by_kind i pip.kind pip (slot_at slots i) is.good o at refl refl e (own_is i pip at going (sound.begun i is.begun) before) going is.own

  -- an input that failed or was skipped has no good result
  bad_input : (j : ℕ) → j < length plan.pips → At plan tree core slots j → is_bad (state_at core.states j) ≡ true → is_good (slice_get all j) ≡ true → ⊥
  bad_input j l here bad good =
      let p = pip_at j l in
      let result = some_result (slice_get all j) good in
      elim (bad_slot plan tree slots j (slot_at slots j) (state_at core.states j) bad (fit j)) [
        | inl skip ↦ both_ways (is_success result.0.verdict) (ap is_success (here.skipped result.0 result.1 skip)) result.2
        | inr own ↦
            let failure = held_failed plan tree slots j (slot_at slots j) own in
            let work = works_if_good j p.0 result.0 p.1 result.1 result.2 in
            let outcome : Failed failure.0 ≡ sequential_outcome plan tree j p.0.kind = here.outcome p.0 (Failed failure.0) p.1 work.0 failure.1 in
            both_ways (is_success result.0.verdict)
            (ap (λ (r : Result). is_success r.verdict) work.1 ∙ work_fails j p.0.kind failure.0 outcome) result.2
      ]

  slot_skipped : (i : ℕ) → ((k : ℕ) → k < i → At plan tree core slots k) → (r : Result) → slice_get all i ≡ Some r → state_at core.states i ≡ state.Skipped
      → r.verdict ≡ verdicts.Skipped
  slot_skipped i before r has is =
      let within : i < length all = slice_get_within all i r has in
      let l : i < length plan.pips = omega (arith, within, number_of_results plan.pips tree plan.tool_budget) in
      let p = pip_at i l in
      let bad = some_member (λ j. is_bad (state_at core.states j)) (node_inputs core.nodes i) (sound.skipped i (omega (arith, l, graph.size)) (ap is_skipped is)) in
      let less : bad.0 < i = input_below plan core.nodes list graph i bad.0 l bad.1 in
      let target : Has (targets plan.pips p.0.kind) bad.0 = is_target plan core.nodes list graph i bad.0 p.0 l p.1 bad.1 in
      elim (cases_Bool (inputs_are_good plan.pips p.0.kind all)) [
        | inl good ↦
            absurd (bad_input bad.0 (omega (arith, less, l)) (before bad.0 less) bad.2
            (passes_all (λ k. is_good (slice_get all k)) (targets plan.pips p.0.kind) bad.0 good target))
        | inr stopped ↦
            ap (λ (x : Result). x.verdict)
            (result_is i p.0 r p.1 has ∙ ap (λ t. cond t (works i p.0.kind) (failed verdicts.Skipped)) stopped)
      ]

  -- ## All pips

  below : (n i : ℕ) → i < n → At plan tree core slots i
  below zero i l = absurd (omega (arith, l))
  below (suc n) i l =
      let before : (k : ℕ) → k < i → At plan tree core slots k = λ k w. below n k (omega (arith, w, l)) in
      record { outcome = slot_outcome i before; skipped = slot_skipped i before }

  result_by : (i : ℕ) (kind : PipKind) (o : Outcome) → o ≡ sequential_outcome plan tree i kind → IsResultOf plan tree i o (works i kind)
  result_by i (Process d) (Good files) e =
      let as_good : works i (Process d) ≡ unless_clash files (clash_at plan.pips (made_by all) i files) = ap (by_outcome plan.pips tree (made_by all) i) (sym e) in
      subst (λ (r : Result). (r ≡ succeeded files) ⊎ FailsByDoubleWrite r) (sym as_good)
      (by_clash files (clash_at plan.pips (made_by all) i files)
      (λ v c. clash_is (shared_paths (outdirs_in (slice_get plan.pips i)) files) (take i plan.pips) (made_by all) v c))
  result_by i (Process d) (Failed cause) e = ap (by_outcome plan.pips tree (made_by all) i) (sym e)
  result_by i (Copy d) (Good files) e = inl (ap succeeded (same_good files (works i (Copy d)).files e))
  result_by i (Copy d) (Failed cause) e = absurd (never_good cause (works i (Copy d)).files e)
  result_by i (Write d) (Good files) e = inl (ap succeeded (same_good files (works i (Write d)).files e))
  result_by i (Write d) (Failed cause) e = absurd (never_good cause (works i (Write d)).files e)
  result_by i (Seal d) (Good files) e = inl (ap succeeded (same_good files (works i (Seal d)).files e))
  result_by i (Seal d) (Failed cause) e = absurd (never_good cause (works i (Seal d)).files e)

  pub follows : FollowsSequential plan tree core.states slots
  follows = record {
    outcome = λ i pip o at going e. (below (i + 1) i (omega arith)).outcome pip o at going e;
    result = λ i pip o r at going e has.
        subst (λ (x : Result). IsResultOf plan tree i o x)
        (sym (result_is i pip r at has ∙ ap (λ t. cond t (works i pip.kind) (failed verdicts.Skipped)) going))
        (result_by i pip.kind o ((below (i + 1) i (omega arith)).outcome pip o at going e));
    skipped = λ i r has is. (below (i + 1) i (omega arith)).skipped r has is;
  }

  -- ## Where nothing is left to do

  all_settled : (states : List PipState) (i : ℕ) → are_settled states ≡ true → is_settled (state_at states i) ≡ true
  all_settled [] zero e = refl
  all_settled [] (suc i) e = refl
  all_settled (s ∷ states) zero e = (and_parts (is_settled s) (are_settled states) e).0
  all_settled (s ∷ states) (suc i) e = all_settled states i (and_parts (is_settled s) (are_settled states) e).1

  -- a process that runs is not skipped
  never_skipped : (i : ℕ) (pip : Pip) (d : ProcessDesc) → slice_get plan.pips i ≡ Some pip → pip.kind ≡ Process d → IsNotSkipped plan tree (Process d)
      → state_at core.states i ≡ state.Skipped → ⊥
  never_skipped i pip d at is going skip =
      let l : i < length plan.pips = slice_get_within plan.pips i pip at in
      let r = result_at i l in
      let work : r.0 ≡ works i (Process d) =
      result_is i pip r.0 at r.1
      ∙ ap (λ (k : PipKind). cond (inputs_are_good plan.pips k all) (works i k) (failed verdicts.Skipped)) is
      ∙ ap (λ t. cond t (works i (Process d)) (failed verdicts.Skipped)) going in
      both_ways (is_skip r.0.verdict)
      (ap (λ (x : Result). is_skip x.verdict) work ∙ outcome_ran plan.pips tree (made_by all) i (sequential_outcome plan tree i (Process d)))
      (ap is_skip ((below (i + 1) i (omega arith)).skipped r.0 r.1 skip))

  abbrev IsSettledAt : ℕ → ProcessDesc → Type 0
  IsSettledAt i d =
      ((facts : Facts) × (slot_at slots i ≡ held.Ran facts) × HoldsNow (sequential_desc plan tree d) (sequential_view plan tree i d) facts)
      ⊎ ((found : FoundParts) × (slot_at slots i ≡ held.Hit found))

  by_slot : (i : ℕ) (pip : Pip) (d : ProcessDesc) (h : Held) (good : Bool) → slice_get plan.pips i ≡ Some pip → pip.kind ≡ Process d → IsNotSkipped plan tree (Process d)
      → own_inputs plan slots i ≡ inputs_after plan.pips (Process d) all → slot_at slots i ≡ h → HoldsOwn plan tree slots i good h → IsSettledAt i d
  by_slot i pip d held.Empty good at is going inputs slot own = absurd own
  by_slot i pip d (held.Ran facts) good at is going inputs slot own =
      let process : process_in (slice_get plan.pips i) ≡ Some d = ap process_in at ∙ ap kind_process is in
      let mine : IsOwnRecord plan tree (own_inputs plan slots i) i facts (Some d) =
      subst (λ (p : Option ProcessDesc). IsOwnRecord plan tree (own_inputs plan slots i) i facts p) process own.1 in
      let on : IsOwnRecord plan tree (inputs_after plan.pips (Process d) all) i facts (Some d) =
      subst (λ (ins : ByPip). IsOwnRecord plan tree ins i facts (Some d)) inputs mine in
      inl (
        facts,
        slot,
        run_is_accepted M apart (sequential_desc plan tree d) (sequential_view plan tree i d) facts on.0 on.1 on.2 on.3
            (slot_of i (held.Ran facts) slot) (λ x k. closing.run i pip d at is going k),
      )
  by_slot i pip d (held.Hit found) good at is going inputs slot own = inr (found, slot)
  by_slot i pip d (held.Plain made) good at is going inputs slot own =
      let process : process_in (slice_get plan.pips i) ≡ Some d = ap process_in at ∙ ap kind_process is in
      absurd (subst (λ (p : Option ProcessDesc). IsOwnPlain plan tree (own_inputs plan slots i) i made p) process own.1)
  by_slot i pip d held.Skipped good at is going inputs slot own = absurd own

  by_state : (i : ℕ) (pip : Pip) (d : ProcessDesc) (s : PipState) → slice_get plan.pips i ≡ Some pip → pip.kind ≡ Process d → IsNotSkipped plan tree (Process d)
      → state_at core.states i ≡ s → is_settled s ≡ true → FitsState plan tree slots i s (slot_at slots i) → IsSettledAt i d
  by_state i pip d state.Waiting at is going here e f = absurd cc
  by_state i pip d (state.Held w) at is going here e f = absurd cc
  by_state i pip d (state.Looked w hit) at is going here e f = absurd cc
  by_state i pip d (state.Published w good) at is going here e f = absurd cc
  by_state i pip d (state.Done good) at is going here e f =
      let going_pip : IsNotSkipped plan tree pip.kind = subst (λ (k : PipKind). IsNotSkipped plan tree k) (sym is) going in
      let inputs : own_inputs plan slots i ≡ inputs_after plan.pips (Process d) all =
      own_is i pip at going_pip (sound.begun i (ap is_begun here)) (below i) ∙ ap (λ (k : PipKind). inputs_after plan.pips k all) is in
      by_slot i pip d (slot_at slots i) good at is going inputs refl f
  by_state i pip d state.Skipped at is going here e f = absurd (never_skipped i pip d at is going here)

  -- the slot of a process that runs has the record of its run, byte by byte, or a hit
  pub settled_slot : are_settled core.states ≡ true → (i : ℕ) (pip : Pip) (d : ProcessDesc) → slice_get plan.pips i ≡ Some pip → pip.kind ≡ Process d
      → IsNotSkipped plan tree (Process d)
      → ((facts : Facts) × (slot_at slots i ≡ held.Ran facts) × HoldsNow (sequential_desc plan tree d) (sequential_view plan tree i d) facts)
      ⊎ ((found : FoundParts) × (slot_at slots i ≡ held.Hit found))
  settled_slot settled i pip d at is going =
      by_state i pip d (state_at core.states i) at is going refl (all_settled core.states i settled) (fit i)
