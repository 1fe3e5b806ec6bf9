-- What follows from an expected response for the status and for what is written.
use Rattle.std.proofs.Common.{◌≡◌, ◌⊎◌, inl, inr, ℕ, List, Bool, true, false, cond, refl, sym, subst, ◌∙◌}
use Rattle.bx_engine_front.specs.declared.limits.Limits.{Limits}
use Rattle.bx_engine_words.specs.declared.order.Order.{Order}
use Rattle.bx_engine.specs.Beyond.{ReportsRule}
use Rattle.bx_engine.specs.Calls.{Call}
use Rattle.bx_engine.specs.Counting.{AppendsNoted, AppendsNotes, IsNoted, IsShown}
use Rattle.bx_engine.specs.Ending.{Ending, InputRefused, SpecificationRefused, Built, all_succeeded, status_of}
use Rattle.bx_engine.specs.Expected.{Answers, Begins, Expected, IsExpected}
use Rattle.bx_engine.specs.Known.{Appends, AppendsPrefix}
use Rattle.bx_engine.specs.OutputTrees.{IsOutputText, IsTreeBegun, IsTreeWritten}
use Rattle.bx_engine.specs.Responses.{IsGoneTo, IsRuleReport}
use Rattle.bx_engine.specs.declared.response.Response.{Response}
use Rattle.bx_engine.specs.Statuses.{IsGone, IsRefusal, IsWhole}
use Rattle.bx_engine.proofs.StatusesDiffer.{gone_same, gone_whole, refusal_whole, refused_status, out_failed}
use Rattle.bx_engine.specs.declared.status.Status.{Status}
use Rattle.bx_engine.specs.declared.status.Status.TheVariants as statuses

-- ## Statuses of endings

whole_if : (good : Bool) → IsWhole (cond good statuses.Done statuses.FailuresFound)
whole_if true = inl refl
whole_if false = inr (inl refl)

whole_ending : (ending : Ending) → IsWhole (status_of ending)
whole_ending (InputRefused fault) = inr (inr (inl refl))
whole_ending (SpecificationRefused refusal) = inr (inr (inr refl))
whole_ending (Built pips results) = whole_if (all_succeeded results)

pub whole_expected : (limits : Limits) (input : List ℕ) (status : Status) (bytes : List ℕ) → IsExpected limits input status bytes → IsWhole status
whole_expected limits input status bytes h = subst IsWhole (sym h.status_is) (whole_ending h.ending)

-- ## What is written

same_status : (order : Order) (input : List ℕ) (status result : Status) (bytes : List ℕ) → Expected order input status bytes
    → (result ≡ status) ⊎ (result ≡ statuses.OutFailed) → IsWhole result → Expected order input result bytes
same_status order input status result bytes h s whole = elim s [
  | inl same ↦ subst (λ (r : Status). Expected order input r bytes) (sym same) h
  | inr cut ↦ absurd (out_failed (subst IsWhole cut whole))
]

pub answered : (order : Order) (input : List ℕ) (status result : Status) (bytes : List ℕ) (before now : List ℕ)
    → Expected order input status bytes → (result ≡ status) ⊎ (result ≡ statuses.OutFailed) → IsWhole result → Appends before now bytes
    → Answers order input result before now
answered order input status result bytes before now h s whole appended = record {
  bytes = bytes;
  expected = same_status order input status result bytes h s whole;
  appended = appended;
}

pub refused : (order : Order) (input : List ℕ) (status result : Status) (bytes : List ℕ) (before now : List ℕ) (fair : Type 0)
    → (IsRefusal status → Expected order input status bytes ⊎ (IsRuleReport bytes × (fair → Expected order input status bytes)))
    → (result ≡ status) ⊎ (result ≡ statuses.OutFailed) → IsRefusal result → (IsWhole result → Appends before now bytes)
    → Answers order input result before now ⊎ (ReportsRule before now × (fair → Answers order input result before now))
refused order input status result bytes before now fair h s r appended =
    let whole = refusal_whole result r in
    elim (h (refused_status status result s r)) [
      | inl expected ↦ inl (answered order input status result bytes before now expected s whole (appended whole))
      | inr rule ↦ inr (
        record { bytes = bytes; report = rule.0; appended = appended whole },
        λ is. answered order input status result bytes before now (rule.1 is) s whole (appended whole),
      )
    ]

pub refused_input : (order : Order) (input : List ℕ) (status result : Status) (bytes : List ℕ) (before now : List ℕ)
    → (status ≡ statuses.InputRefused → Expected order input status bytes) → (result ≡ status) ⊎ (result ≡ statuses.OutFailed)
    → result ≡ statuses.InputRefused → (IsWhole result → Appends before now bytes) → Answers order input result before now
refused_input order input status result bytes before now h s r appended =
    let whole = refusal_whole result (inl r) in
    elim s [
      | inl same ↦ answered order input status result bytes before now (h (sym same ∙ r)) (inl same) whole (appended whole)
      | inr cut ↦ absurd (out_failed (subst IsWhole cut whole))
    ]

pub begun : (order : Order) (input : List ℕ) (status : Status) (bytes : List ℕ) (before now : List ℕ) → Expected order input status bytes
    → AppendsPrefix before now bytes → Begins order input before now
begun order input status bytes before now h appended = record { status = status; bytes = bytes; expected = h; appended = appended }

pub shown : (call : Call) (input : List ℕ) (order : Order) (response : Response) → (IsGone response.status → IsGoneTo order input call.store call.graphs response)
    → (call.status ≡ response.status) ⊎ (call.status ≡ statuses.OutFailed) → IsGone call.status
    → (IsWhole call.status → Appends call.out.before call.out.now response.bytes.items) → (IsWhole call.status → AppendsNoted response.notes.items call.notes)
    → IsShown call input order
shown call input order response h s gone written noted =
    let same = gone_same response.status call.status s gone in
    let g = h (subst IsGone same gone) in
    let whole = gone_whole call.status gone in
    record {
      gone = g.went.gone;
      asked = g.asked;
      rules = g.rules;
      line = g.line;
      status_is = same ∙ g.went.status_is;
      written = subst (λ (t : List ℕ). Appends call.out.before call.out.now t) g.went.bytes_are (written whole);
      noted = subst (λ (t : List ℕ). AppendsNoted t call.notes) g.went.notes_are (noted whole);
    }

pub noted : (call : Call) (input : List ℕ) (order : Order) (status : Status) (text : List ℕ) → IsNoted order input call.store call.graphs status text
    → (call.status ≡ status) ⊎ (call.status ≡ statuses.OutFailed) → IsWhole call.status → AppendsNoted text call.notes → AppendsNotes call input order
noted call input order status text h s whole appended = record {
  text = text;
  noted = elim s [
    | inl same ↦ subst (λ (r : Status). IsNoted order input call.store call.graphs r text) (sym same) h
    | inr cut ↦ absurd (out_failed (subst IsWhole cut whole))
  ];
  appended = appended;
}

pub tree_begun : (text : List ℕ) (before now : List ℕ) → IsOutputText text → AppendsPrefix before now text → IsTreeBegun before now
tree_begun text before now h appended = record {
  files = h.0;
  output = h.1;
  appended = subst (λ (t : List ℕ). AppendsPrefix before now t) h.2 appended;
}

pub tree_written : (text : List ℕ) (before now : List ℕ) → IsOutputText text → Appends before now text → IsTreeWritten before now
tree_written text before now h appended = record {
  files = h.0;
  output = h.1;
  appended = subst (λ (t : List ℕ). Appends before now t) h.2 appended;
}
