-- A build over any store of which no call fails, one pip after another.
use Rattle.std.proofs.Common.{◌≡◌, ℕ, ◌+◌, ◌<◌, ◌≤◌, suc, Bool, true, false, List, [], ◌∷◌, ◌++◌, length, map, drop, get_or, Option, Some, None, inl, inr, refl, ap, sym, ◌∙◌, subst, arith, add-one, append_assoc, append-nil, length-append}
use Rattle.std.specs.Prelude.{slice_get}
use Rattle.std.proofs.lemmas.List.{drop_all, map-append}
use Rattle.std.proofs.lemmas.Option.{slice_get-get_or}
use Rattle.std.proofs.Math.Seq.{drop-cons}
use Rattle.bx_tree.specs.Trees.{Files}
use Rattle.bx_io.specs.Holdings.{Holdings}
use Rattle.pip_model_types.specs.declared.desc.Desc.{Desc}
use Rattle.pip_model_types.specs.declared.made.Slot.{Slot}
use Rattle.pip_model_types.specs.declared.pip.Pip.{Pip}
use Rattle.pip_model_types.specs.declared.pip.PipKind.{PipKind}
use Rattle.pip_model_types.specs.declared.pip.PipKind.TheVariants.{Process, Copy, Write, Seal}
use Rattle.pip_model_types.specs.declared.pip.ProcessDesc.{ProcessDesc}
use Rattle.pip_model.specs.Edges.{targets}
use Rattle.observed.specs.declared.ask.Ask.{Ask}
use Rattle.observed.specs.declared.access.Answer.{Answer}
use Rattle.pip_view_inputs.specs.Plain.{desc_of, kind_process}
use Rattle.pip_view_inputs.specs.Results.{inputs_of}
use Rattle.pip_view.specs.Sees.{sees}
use Rattle.violations.specs.Slots.{slot_files}
use Rattle.violations.specs.Verdicts.{is_success}
use Rattle.violations.specs.declared.verdict.Verdict.{Verdict}
use Rattle.one_thread.specs.OneThread.{Result, inputs_are_good, made_by, worked}
use Rattle.one_thread.specs.Views.{AllAgree, ended_result, is_good_slot, results_of, slots_are_good}
use Rattle.one_thread.proofs.GoingThrough.{all_good, made_is, results_more}
use Rattle.sched_board_slots.specs.Slots.{slot_at}
use Rattle.sched_board_slots.specs.declared.held.Held.{Held}
use Rattle.two_phase.specs.Reading.{ReaderData}
use Rattle.retire.specs.Accepting.{IsAccepted}
use Rattle.retire.specs.Counting.{one_accepted, one_fault, one_miss}
use Rattle.retire.specs.Deciding as deciding
use Rattle.retire.specs.Deciding.{DecidedBy, Decides, DecidesAt}
use Rattle.retire.specs.Over as over
use Rattle.retire.specs.Over.{ComesOver, ProcessOver, RunsFrom, RunsSome, RunsWith, TakesOver, WorksOver, number_if}
use Rattle.retire.specs.Taking.{IsOfNow, TakesFrom, outcome_in, way_of}
use Rattle.retire.specs.declared.deciding.Next.{Next}
use Rattle.retire.specs.declared.taking.Taken.{Taken}
use Rattle.retire.specs.declared.taking.Taken.TheVariants as takings
use Rattle.retire.specs.declared.taking.Way.{Way}
use Rattle.retire.specs.declared.taking.Way.TheVariants as ways
use Rattle.retire.proofs.Along.{accepted_ran, ran_is}
use Rattle.retire.proofs.Told.{IsTold, told_takes}

-- whether a tool ran, here or for the slot
abbrev is_run : Way → Bool
is_run ways.Plain = false
is_run ways.Accepted = true
is_run ways.Hit = false
is_run ways.Ran = true
is_run ways.Faulted = true

run_counted : (way : Way) (i : ℕ) → one_fault way ≡ 0 → length (number_if (is_run way) i) ≡ one_accepted way + one_miss way
run_counted ways.Plain i e = refl
run_counted ways.Accepted i e = refl
run_counted ways.Hit i e = refl
run_counted ways.Ran i e = refl
run_counted ways.Faulted i e = absurd (omega (arith, e))

-- ## One process

takes_over : (S : Holdings) (d : Desc) (see : Ask → Answer) (slot : Held) (t : Taken) → TakesFrom S d see t → IsOfNow d see slot t → one_fault (way_of t) ≡ 0
    → TakesOver S d see slot (outcome_in t) (is_run (way_of t))
takes_over S d see slot (takings.Accepted f) takes now is_no = over.accepted (subst (IsAccepted d see) (sym now.0) now.2) (accepted_ran f d see now.1 now.2) refl
takes_over S d see slot (takings.Hit f) takes now is_no = over.hit f now.0 takes.0 takes.1 refl refl
takes_over S d see slot (takings.Missed f) takes now is_no = over.miss now.0 takes (ran_is f d see now.2) refl
takes_over S d see slot (takings.Faulted f) takes now is_no = absurd (omega (arith, is_no))

-- ## One pip

module _ (pips : List Pip) (tree : Files) (budget : ℕ) (S : Holdings) (reader : Option ReaderData) (told : IsTold reader S) (slot : Held) where
  module _ (vs : List Verdict) (ss : List Slot) (even : length vs ≡ length ss) (agree : AllAgree vs ss) (n : ℕ) where
    made : made_by (results_of vs ss) ≡ map slot_files ss
    made = made_is vs ss even

    good : (kind : PipKind) (b : Bool) → slots_are_good pips kind ss ≡ b → inputs_are_good pips kind (results_of vs ss) ≡ b
    good kind b e = all_good vs ss even agree (targets pips kind) ∙ e

    plain_works : (kind : PipKind) (result : Result) → result ≡ worked pips tree budget (map slot_files ss) (inputs_of pips kind (map slot_files ss)) n kind
        → result ≡ worked pips tree budget (made_by (results_of vs ss)) (inputs_of pips kind (made_by (results_of vs ss))) n kind
    plain_works kind result e = e ∙ ap (λ (ms : List Files). worked pips tree budget ms (inputs_of pips kind ms) n kind) (sym made)

    works : (kind : PipKind) (result : Result) (run : Bool) → kind_process kind ≡ None
        → result ≡ worked pips tree budget (map slot_files ss) (inputs_of pips kind (map slot_files ss)) n kind → run ≡ false
        → WorksOver pips tree budget S slot (results_of vs ss) n kind result run
    works (Process d) result run none is is_no = cc
    works (Copy d) result run none is is_no = (plain_works (Copy d) result is, is_no)
    works (Write d) result run none is is_no = (plain_works (Write d) result is, is_no)
    works (Seal d) result run none is is_no = (plain_works (Seal d) result is, is_no)

    process_works : (p : ProcessDesc) (next : Next) → DecidedBy pips tree budget reader slot (map slot_files ss) (inputs_of pips (Process p) (map slot_files ss)) n p next
        → one_fault next.way ≡ 0 → WorksOver pips tree budget S slot (results_of vs ss) n (Process p) (ended_result next.ended) (is_run next.way)
    process_works p next by is_no =
        let d = desc_of tree (inputs_of pips (Process p) (map slot_files ss)) budget p in
        let see = sees pips tree (inputs_of pips (Process p) (map slot_files ss)) n in
        let takes : TakesOver S d see slot (outcome_in by.taken) (is_run next.way) =
        subst (λ (w : Way). TakesOver S d see slot (outcome_in by.taken) (is_run w)) (sym by.way_is)
        (takes_over S d see slot by.taken (told_takes reader S d see by.taken told by.takes) by.now (sym (ap one_fault by.way_is) ∙ is_no)) in
        subst (λ (ms : List Files). ProcessOver pips tree ms n S (desc_of tree (inputs_of pips (Process p) ms) budget p) (sees pips tree (inputs_of pips (Process p) ms) n) slot (ended_result next.ended) (is_run next.way))
        (sym made) (record { outcome = outcome_in by.taken; takes = takes; result_is = by.result_is })

    comes : (kind : PipKind) (next : Next) → Decides pips tree budget reader slot ss n kind next → one_fault next.way ≡ 0
        → ComesOver pips tree budget S slot (results_of vs ss) n kind (ended_result next.ended) (is_run next.way)
    comes kind next (deciding.skipped bad plainly) is_no = inr (good kind false bad, plainly.result_is, ap is_run plainly.way_is)
    comes kind next (deciding.plain fine none plainly) is_no =
        inl (good kind true fine, works kind (ended_result next.ended) (is_run next.way) none plainly.result_is (ap is_run plainly.way_is))
    comes kind next (deciding.process p fine is by) is_no =
        inl (good kind true fine, subst (λ (k : PipKind). WorksOver pips tree budget S slot (results_of vs ss) n k (ended_result next.ended) (is_run next.way)) (sym is) (process_works p next by is_no))

-- ## All pips

-- what is known of the first pips, of which so many ran
pub record GoesOver (pips : List Pip) (tree : Files) (budget : ℕ) (S : Holdings) (slots : List Held) (n : ℕ) (vs : List Verdict) (ss : List Slot) (ran : ℕ)
    : Type 0 where
  pub verdicts : length vs ≡ n
  pub results : length ss ≡ n
  pub agree : AllAgree vs ss
  pub numbers : List ℕ
  pub count : length numbers ≡ ran
  pub goes_on : (rest : List ℕ) → RunsFrom pips tree budget S slots (results_of vs ss) n (drop n pips) rest → RunsWith pips tree budget S slots (numbers ++ rest)

pub over_none : (pips : List Pip) (tree : Files) (budget : ℕ) (S : Holdings) (slots : List Held) → GoesOver pips tree budget S slots 0 [] [] 0
over_none pips tree budget S slots =
    record { verdicts = refl; results = refl; agree = refl; numbers = []; count = refl; goes_on = λ rest h. h }

pub over_more : (pips : List Pip) (tree : Files) (budget : ℕ) (S : Holdings) (slots : List Held) (n : ℕ) (vs : List Verdict) (ss : List Slot) (accepted missed : ℕ)
    → GoesOver pips tree budget S slots n vs ss (accepted + missed) → n < length pips → (reader : Option ReaderData) → IsTold reader S → (next : Next)
    → is_good_slot next.ended.slot ≡ is_success next.ended.verdict → (o : Option Pip) → slice_get pips n ≡ o
    → DecidesAt pips tree budget reader (slot_at slots n) ss n o next → one_fault next.way ≡ 0
    → GoesOver pips tree budget S slots (n + 1) (vs ++ next.ended.verdict ∷ []) (ss ++ next.ended.slot ∷ []) (accepted + one_accepted next.way + (missed + one_miss next.way))
over_more pips tree budget S slots n vs ss accepted missed h l reader told next agrees None is decides is_no = absurd decides
over_more pips tree budget S slots n vs ss accepted missed h l reader told next agrees (Some d) is decides is_no =
    let pip = get_or pips n d in
    let v = next.ended.verdict in
    let s = next.ended.slot in
    let even : length vs ≡ length ss = omega (arith, h.verdicts, h.results) in
    let there : Some d ≡ Some pip = sym is ∙ slice_get-get_or pips n d l in
    let results : results_of (vs ++ v ∷ []) (ss ++ s ∷ []) ≡ results_of vs ss ++ ended_result next.ended ∷ [] = results_more vs ss v s even in
    let own : Decides pips tree budget reader (slot_at slots n) ss n pip.kind next =
    subst (λ (o : Option Pip). DecidesAt pips tree budget reader (slot_at slots n) ss n o next) there decides in
    let step : ComesOver pips tree budget S (slot_at slots n) (results_of vs ss) n pip.kind (ended_result next.ended) (is_run next.way) =
    comes pips tree budget S reader told (slot_at slots n) vs ss even h.agree n pip.kind next own is_no in
    let one = number_if (is_run next.way) n in
    let counted = run_counted next.way n is_no in
    let longer = length-append h.numbers one in
    record {
      verdicts = length-append vs (v ∷ []) ∙ ap (λ k. k + 1) h.verdicts;
      results = length-append ss (s ∷ []) ∙ ap (λ k. k + 1) h.results;
      agree =
          map-append is_good_slot ss (s ∷ []) ∙ ap (λ bs. bs ++ is_good_slot s ∷ []) h.agree
          ∙ ap (λ b. map is_success vs ++ b ∷ []) agrees ∙ sym (map-append is_success vs (v ∷ []));
      numbers = h.numbers ++ one;
      count = omega (arith, longer, counted, h.count);
      goes_on = λ rest k.
          let after : RunsFrom pips tree budget S slots (results_of vs ss ++ ended_result next.ended ∷ []) (n + 1) (drop (suc n) pips) rest =
          subst (λ m. RunsFrom pips tree budget S slots (results_of vs ss ++ ended_result next.ended ∷ []) (n + 1) (drop m pips) rest) (add-one n)
          (subst (λ rs. RunsFrom pips tree budget S slots rs (n + 1) (drop (n + 1) pips) rest) results k) in
          subst (RunsWith pips tree budget S slots) (sym (append_assoc h.numbers one rest))
          (h.goes_on (one ++ rest)
          (subst (λ ps. RunsFrom pips tree budget S slots (results_of vs ss) n ps (one ++ rest)) (sym (drop-cons pips n d l))
          (ended_result next.ended, is_run next.way, rest, step, refl, after)));
    }

-- by what the lists of a loop are
pub over_as : (pips : List Pip) (tree : Files) (budget : ℕ) (S : Holdings) (slots : List Held) (n : ℕ) (vs new_vs : List Verdict) (ss new_ss : List Slot) (ran new_ran : ℕ)
    → new_vs ≡ vs → new_ss ≡ ss → new_ran ≡ ran → GoesOver pips tree budget S slots n vs ss ran → GoesOver pips tree budget S slots n new_vs new_ss new_ran
over_as pips tree budget S slots n vs new_vs ss new_ss ran new_ran vs_are ss_are ran_are h =
    subst (λ (ws : List Verdict). GoesOver pips tree budget S slots n ws new_ss new_ran) (sym vs_are)
    (subst (λ (ts : List Slot). GoesOver pips tree budget S slots n vs ts new_ran) (sym ss_are)
    (subst (GoesOver pips tree budget S slots n vs ss) (sym ran_are) h))

pub over_all : (pips : List Pip) (tree : Files) (budget : ℕ) (S : Holdings) (slots : List Held) (n : ℕ) (vs : List Verdict) (ss : List Slot) (ran : ℕ)
    → GoesOver pips tree budget S slots n vs ss ran → length pips ≤ n → RunsSome pips tree budget S slots ran
over_all pips tree budget S slots n vs ss ran h l = (
  h.numbers,
  subst (RunsWith pips tree budget S slots) (append-nil h.numbers)
      (h.goes_on [] (subst (λ ps. RunsFrom pips tree budget S slots (results_of vs ss) n ps []) (sym (drop_all n pips l)) refl)),
  h.count,
)
