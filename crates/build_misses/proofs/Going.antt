-- The build so far over a store, one pip after the other.
use Rattle.std.proofs.Common.{◌≡◌, ℕ, ◌+◌, ◌<◌, ◌≤◌, suc, Bool, true, false, List, [], ◌∷◌, ◌++◌, length, map, drop, get_or, Option, Some, None, inl, inr, refl, ap, sym, ◌∙◌, subst, arith, add-one, append_assoc, append-nil, length-append}
use Rattle.std.specs.Prelude.{is_some, slice_get}
use Rattle.std.proofs.lemmas.List.{drop_all, map-append}
use Rattle.std.proofs.lemmas.Option.{slice_get-get_or}
use Rattle.std.proofs.Math.Seq.{drop-cons}
use Rattle.bx_tree.specs.Trees.{Files}
use Rattle.bx_io.specs.Holdings.{Holdings}
use Rattle.pip_model_types.specs.declared.made.Slot.{Slot}
use Rattle.pip_model_types.specs.declared.pip.Pip.{Pip}
use Rattle.pip_model_types.specs.declared.pip.PipKind.{PipKind}
use Rattle.pip_model_types.specs.declared.pip.PipKind.TheVariants.{Process, Copy, Write, Seal}
use Rattle.pip_model_types.specs.declared.pip.ProcessDesc.{ProcessDesc}
use Rattle.pip_model.specs.Edges.{targets}
use Rattle.pip_view_inputs.specs.Plain.{desc_of, kind_process}
use Rattle.pip_view_inputs.specs.Results.{inputs_of}
use Rattle.pip_view.specs.Sees.{sees}
use Rattle.violations.specs.Slots.{slot_files}
use Rattle.violations.specs.Verdicts.{is_success}
use Rattle.violations.specs.declared.verdict.Verdict.{Verdict}
use Rattle.one_thread.specs.OneThread.{Result, inputs_are_good, made_by, worked}
use Rattle.one_thread.specs.Views.{AllAgree, is_good_slot, result_in, results_of, slots_are_good}
use Rattle.one_thread.proofs.GoingThrough.{all_good, made_is, results_more}
use Rattle.build_misses.specs.Going as going
use Rattle.build_misses.specs.Going.{EndsAt, EndsOver}
use Rattle.retire.specs.Over.{ComesOver, ProcessOver, RunsFrom, RunsOver, WorksOver, no_slot, number_if}
use Rattle.build_misses.specs.Reasoned as reasoned
use Rattle.build_misses.specs.Reasoned.{AreReasoned, ReasonedFrom, WhyAt, WhyOf, miss_if}
use Rattle.build_misses.specs.declared.finding.Miss.{Miss}
use Rattle.miss_reasons.specs.declared.reason.Reason.{Reason}

module _ (pips : List Pip) (tree : Files) (budget : ℕ) (S : Holdings) where
  -- a pip by slots, and by results
  module _ (vs : List Verdict) (ss : List Slot) (even : length vs ≡ length ss) (agree : AllAgree vs ss) (n : ℕ) where
    made : made_by (results_of vs ss) ≡ map slot_files ss
    made = made_is vs ss even

    good : (kind : PipKind) (b : Bool) → slots_are_good pips kind ss ≡ b → inputs_are_good pips kind (results_of vs ss) ≡ b
    good kind b e = all_good vs ss even agree (targets pips kind) ∙ e

    plain_works : (kind : PipKind) (result : Result) → result ≡ worked pips tree budget (map slot_files ss) (inputs_of pips kind (map slot_files ss)) n kind
        → result ≡ worked pips tree budget (made_by (results_of vs ss)) (inputs_of pips kind (made_by (results_of vs ss))) n kind
    plain_works kind result e = e ∙ ap (λ (ms : List Files). worked pips tree budget ms (inputs_of pips kind ms) n kind) (sym made)

    works : (kind : PipKind) (result : Result) (missed : Bool) → kind_process kind ≡ None
        → result ≡ worked pips tree budget (map slot_files ss) (inputs_of pips kind (map slot_files ss)) n kind → missed ≡ false
        → WorksOver pips tree budget S no_slot (results_of vs ss) n kind result missed
    works (Process d) result missed none is is_no = cc
    works (Copy d) result missed none is is_no = (plain_works (Copy d) result is, is_no)
    works (Write d) result missed none is is_no = (plain_works (Write d) result is, is_no)
    works (Seal d) result missed none is is_no = (plain_works (Seal d) result is, is_no)

    process_works : (p : ProcessDesc) (result : Result) (missed : Bool)
        → ProcessOver pips tree (map slot_files ss) n S (desc_of tree (inputs_of pips (Process p) (map slot_files ss)) budget p)
        (sees pips tree (inputs_of pips (Process p) (map slot_files ss)) n) no_slot result missed
        → WorksOver pips tree budget S no_slot (results_of vs ss) n (Process p) result missed
    process_works p result missed h =
        subst (λ (ms : List Files). ProcessOver pips tree ms n S (desc_of tree (inputs_of pips (Process p) ms) budget p) (sees pips tree (inputs_of pips (Process p) ms) n) no_slot result missed)
        (sym made) h

    comes : (kind : PipKind) (result : Result) (why : Option Reason) → EndsOver pips tree budget S ss n kind result why
        → ComesOver pips tree budget S no_slot (results_of vs ss) n kind result (is_some why)
    comes kind result why (going.skipped bad is is_no) = inr (good kind false bad, is, ap is_some is_no)
    comes kind result why (going.plain fine none is is_no) = inl (good kind true fine, works kind result (is_some why) none is (ap is_some is_no))
    comes kind result why (going.process p fine is h reason) =
        inl (good kind true fine, subst (λ (k : PipKind). WorksOver pips tree budget S no_slot (results_of vs ss) n k result (is_some why)) (sym is) (process_works p result (is_some why) h))

    -- no reason is told of a pip whose tool does not run
    no_why : (kind : PipKind) (why : Option Reason) → why ≡ None → WhyOf pips tree budget S (results_of vs ss) n kind why
    no_why (Process d) why is_no = reasoned.untold is_no
    no_why (Copy d) why is_no = tt
    no_why (Write d) why is_no = tt
    no_why (Seal d) why is_no = tt

    reasons : (kind : PipKind) (result : Result) (why : Option Reason) → EndsOver pips tree budget S ss n kind result why
        → WhyOf pips tree budget S (results_of vs ss) n kind why
    reasons kind result why (going.skipped bad is is_no) = no_why kind why is_no
    reasons kind result why (going.plain fine none is is_no) = no_why kind why is_no
    reasons kind result why (going.process p fine is h reason) =
        subst (λ (k : PipKind). WhyOf pips tree budget S (results_of vs ss) n k why) (sym is)
        (subst (λ (ms : List Files). WhyAt S (desc_of tree (inputs_of pips (Process p) ms) budget p) (sees pips tree (inputs_of pips (Process p) ms) n) why) (sym made) reason)

-- what is known of the first pips
pub record GoesTo (pips : List Pip) (tree : Files) (budget : ℕ) (told : Option Holdings) (n : ℕ) (vs : List Verdict) (ss : List Slot) (misses : List Miss)
    : Type 0 where
  pub verdicts : length vs ≡ n
  pub slots : length ss ≡ n
  pub agree : AllAgree vs ss
  pub goes_on : (S : Holdings) → told ≡ Some S → (rest : List Miss) → ReasonedFrom pips tree budget S (results_of vs ss) n (drop n pips) rest
      → AreReasoned pips tree budget S (misses ++ rest)

begins : (pips : List Pip) (tree : Files) (budget : ℕ) (told : Option Holdings) → GoesTo pips tree budget told 0 [] [] []
begins pips tree budget told = record { verdicts = refl; slots = refl; agree = refl; goes_on = λ S is rest h. h }

-- by what the lists of a loop are
pub begins_as : (pips : List Pip) (tree : Files) (budget : ℕ) (told : Option Holdings) (vs : List Verdict) (ss : List Slot) (misses : List Miss) → vs ≡ [] → ss ≡ [] → misses ≡ []
    → GoesTo pips tree budget told 0 vs ss misses
begins_as pips tree budget told vs ss misses no_vs no_ss none =
    subst (λ (ws : List Verdict). GoesTo pips tree budget told 0 ws ss misses) (sym no_vs)
    (subst (λ (ts : List Slot). GoesTo pips tree budget told 0 [] ts misses) (sym no_ss)
    (subst (GoesTo pips tree budget told 0 [] []) (sym none) (begins pips tree budget told)))

-- one more pip, which is there
step : (pips : List Pip) (tree : Files) (budget : ℕ) (S : Holdings) (n : ℕ) (vs : List Verdict) (ss : List Slot) (result : Result) (why : Option Reason) (misses rest : List Miss)
    → length vs ≡ length ss → AllAgree vs ss → n < length pips → (o : Option Pip) → slice_get pips n ≡ o → EndsAt pips tree budget S ss n o result why
    → ((xs : List Miss) → ReasonedFrom pips tree budget S (results_of vs ss) n (drop n pips) xs → AreReasoned pips tree budget S (misses ++ xs))
    → ReasonedFrom pips tree budget S (results_of vs ss ++ result ∷ []) (n + 1) (drop (n + 1) pips) rest → AreReasoned pips tree budget S (misses ++ (miss_if why n ++ rest))
step pips tree budget S n vs ss result why misses rest even agree l None is ends so_far more = absurd ends
step pips tree budget S n vs ss result why misses rest even agree l (Some d) is ends so_far more =
    let pip = get_or pips n d in
    let there : Some d ≡ Some pip = sym is ∙ slice_get-get_or pips n d l in
    let own : EndsOver pips tree budget S ss n pip.kind result why = subst (λ (o : Option Pip). EndsAt pips tree budget S ss n o result why) there ends in
    let comes_to : ComesOver pips tree budget S no_slot (results_of vs ss) n pip.kind result (is_some why) = comes pips tree budget S vs ss even agree n pip.kind result why own in
    let reason : WhyOf pips tree budget S (results_of vs ss) n pip.kind why = reasons pips tree budget S vs ss even agree n pip.kind result why own in
    let after : ReasonedFrom pips tree budget S (results_of vs ss ++ result ∷ []) (n + 1) (drop (suc n) pips) rest =
    subst (λ m. ReasonedFrom pips tree budget S (results_of vs ss ++ result ∷ []) (n + 1) (drop m pips) rest) (add-one n) more in
    so_far (miss_if why n ++ rest)
    (subst (λ (ps : List Pip). ReasonedFrom pips tree budget S (results_of vs ss) n ps (miss_if why n ++ rest)) (sym (drop-cons pips n d l))
    (result, why, rest, comes_to, reason, refl, after))

pub one_more : (pips : List Pip) (tree : Files) (budget : ℕ) (told now : Option Holdings) (n : ℕ) (vs new_vs : List Verdict) (ss new_ss : List Slot)
    (v : Verdict) (s : Slot) (why : Option Reason) (misses new : List Miss) → GoesTo pips tree budget told n vs ss misses → n < length pips
    → ((S : Holdings) → now ≡ Some S → told ≡ Some S) → ((S : Holdings) → now ≡ Some S → EndsAt pips tree budget S ss n (slice_get pips n) (result_in v s) why)
    → is_good_slot s ≡ is_success v → new_vs ≡ vs ++ v ∷ [] → new_ss ≡ ss ++ s ∷ [] → new ≡ misses ++ miss_if why n
    → GoesTo pips tree budget now (n + 1) new_vs new_ss new
one_more pips tree budget told now n vs new_vs ss new_ss v s why misses new h l stays ends agrees more_vs more_ss more =
    let even : length vs ≡ length ss = omega (arith, h.verdicts, h.slots) in
    let results : results_of new_vs new_ss ≡ results_of vs ss ++ result_in v s ∷ [] =
    ap (λ (ws : List Verdict). results_of ws new_ss) more_vs ∙ ap (λ (ts : List Slot). results_of (vs ++ v ∷ []) ts) more_ss ∙ results_more vs ss v s even in
    record {
      verdicts = ap length more_vs ∙ length-append vs (v ∷ []) ∙ ap (λ k. k + 1) h.verdicts;
      slots = ap length more_ss ∙ length-append ss (s ∷ []) ∙ ap (λ k. k + 1) h.slots;
      agree =
          ap (map is_good_slot) more_ss ∙ map-append is_good_slot ss (s ∷ [])
          ∙ ap (λ bs. bs ++ is_good_slot s ∷ []) h.agree ∙ ap (λ b. map is_success vs ++ b ∷ []) agrees
          ∙ sym (map-append is_success vs (v ∷ [])) ∙ ap (map is_success) (sym more_vs);
      goes_on = λ S is rest k.
          subst (AreReasoned pips tree budget S) (sym (append_assoc misses (miss_if why n) rest) ∙ ap (λ (xs : List Miss). xs ++ rest) (sym more))
          (step pips tree budget S n vs ss (result_in v s) why misses rest even h.agree l (slice_get pips n) refl (ends S is) (h.goes_on S (stays S is))
          (subst (λ (rs : List Result). ReasonedFrom pips tree budget S rs (n + 1) (drop (n + 1) pips) rest) results k));
    }

pub all_gone : (pips : List Pip) (tree : Files) (budget : ℕ) (told : Option Holdings) (n : ℕ) (vs : List Verdict) (ss : List Slot) (misses : List Miss)
    → GoesTo pips tree budget told n vs ss misses → length pips ≤ n → (S : Holdings) → told ≡ Some S → AreReasoned pips tree budget S misses
all_gone pips tree budget told n vs ss misses h l S is =
    subst (AreReasoned pips tree budget S) (append-nil misses)
    (h.goes_on S is [] (subst (λ ps. ReasonedFrom pips tree budget S (results_of vs ss) n ps []) (sym (drop_all n pips l)) refl))

-- ## The numbers alone

numbers_append : (xs ys : List Miss) → map (λ (m : Miss). m.pip) (xs ++ ys) ≡ map (λ (m : Miss). m.pip) xs ++ map (λ (m : Miss). m.pip) ys
numbers_append [] ys = refl
numbers_append (x ∷ xs) ys = ap (λ ns. x.pip ∷ ns) (numbers_append xs ys)

number_of : (why : Option Reason) (i : ℕ) → map (λ (m : Miss). m.pip) (miss_if why i) ≡ number_if (is_some why) i
number_of None i = refl
number_of (Some reason) i = refl

runs_from : (pips : List Pip) (tree : Files) (budget : ℕ) (S : Holdings) (left : List Pip) (results : List Result) (i : ℕ) (misses : List Miss)
    → ReasonedFrom pips tree budget S results i left misses → RunsFrom pips tree budget S [] results i left (map (λ (m : Miss). m.pip) misses)
runs_from pips tree budget S [] results i misses h = ap (map (λ (m : Miss). m.pip)) h
runs_from pips tree budget S (pip ∷ left) results i misses (result, why, rest, step, reason, are, more) = (
  result,
  is_some why,
  map (λ (m : Miss). m.pip) rest,
  step,
  ap (map (λ (m : Miss). m.pip)) are ∙ numbers_append (miss_if why i) rest ∙ ap (λ ns. ns ++ map (λ (m : Miss). m.pip) rest) (number_of why i),
  runs_from pips tree budget S left (results ++ result ∷ []) (i + 1) rest more,
)

pub they_run : (pips : List Pip) (tree : Files) (budget : ℕ) (S : Holdings) (misses : List Miss) → AreReasoned pips tree budget S misses
    → RunsOver pips tree budget S (map (λ (m : Miss). m.pip) misses)
they_run pips tree budget S misses h = runs_from pips tree budget S pips [] 0 misses h
