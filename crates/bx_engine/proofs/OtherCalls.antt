-- What is promised of a call that builds nothing: a check, a repair, a trim, a workload.
use Rattle.std.proofs.Common.{◌≡◌, ◌≢◌, ◌⊎◌, inl, inr, ℕ, Bool, false, true≢false, sym, subst, arith}
use Rattle.bx_io.specs.Causes.{HasCause}
use Rattle.bx_engine_words.specs.Words.{IsBuild, IsCare}
use Rattle.bx_engine_words.specs.declared.order.Order.{Order}
use Rattle.bx_engine_words.specs.declared.order.Order.TheVariants.{Check, Gen, Repair, Trim}
use Rattle.bx_engine.specs.Beyond.{GoesBeyond, OfEachCall, OfEachCare}
use Rattle.bx_engine.specs.Calls.{Call}
use Rattle.bx_engine.specs.Care.{BlamesStore, OfCheck, OfRepair, OfTrim}
use Rattle.bx_engine.specs.Headline.{KeepsHeadline}
use Rattle.bx_engine.specs.Known.{GivesPiece}
use Rattle.bx_engine.specs.Statuses.{HasNoBuild, HasNoNotes, IsGone, IsSilent}
use Rattle.bx_engine.specs.Stores.{uses_store}
use Rattle.bx_engine.specs.Workloads.{OfGen}
use Rattle.bx_engine.specs.declared.status.Status.{Status}
use Rattle.bx_engine.specs.declared.status.Status.TheVariants as statuses
use Rattle.bx_engine.proofs.CallsEnd.{some_order}
use Rattle.bx_engine.proofs.StatusesDiffer.{gone_or_refused, gone_whole}

-- words that are one order, which is none to build, are none to build
pub no_headline : (asked : Order → Type 0) (order : Order) (call : Call) → ((o : Order) → asked o → order ≡ o) → (IsBuild order → ⊥)
    → KeepsHeadline (λ o. asked o × IsBuild o) call
no_headline asked order call one other = λ o input is given fair. absurd (other (subst IsBuild (sym (one o is.0)) is.1))

-- ## Statuses

-- the statuses of a check, a repair and a trim
abbrev pub IsCared : Status → Type 0
IsCared status = IsGone status ⊎ (status ≡ statuses.OutOfMemory) ⊎ (status ≡ statuses.KeeperFailed)

cared_no_source : (status : Status) → IsCared status → status ≡ statuses.SourceFailed → ⊥
cared_no_source status came failed = elim came [
  | inl gone ↦ elim gone [ inl a ↦ cc | inr b ↦ cc ]
  | inr more ↦ elim more [ inl a ↦ cc | inr b ↦ cc ]
]

cared_no_cut : (status : Status) → IsCared status → status ≡ statuses.OutFailed → ⊥
cared_no_cut status came failed = elim came [
  | inl gone ↦ elim gone [ inl a ↦ cc | inr b ↦ cc ]
  | inr more ↦ elim more [ inl a ↦ cc | inr b ↦ cc ]
]

pub cared_no_command : (status : Status) → IsCared status → status ≢ statuses.NoCommand
cared_no_command status came none = elim came [
  | inl gone ↦ elim gone [ inl a ↦ cc | inr b ↦ cc ]
  | inr more ↦ elim more [ inl a ↦ cc | inr b ↦ cc ]
]

-- such a call was begun
pub cared_begun : (status : Status) → IsCared status → HasNoBuild status → ⊥
cared_begun status came none = elim none [
  | inl a ↦ cared_no_command status came a
  | inr b ↦ elim b [
    | inl c ↦ cared_no_source status came c
    | inr r ↦ elim came [
      | inl gone ↦ gone_or_refused status gone r
      | inr more ↦ elim more [ inl memory ↦ elim r [ inl d ↦ cc | inr e ↦ cc ] | inr failed ↦ elim r [ inl d ↦ cc | inr e ↦ cc ] ]
    ]
  ]
]

-- the statuses of a workload
abbrev pub IsWorked : Status → Type 0
IsWorked status = (status ≡ statuses.Done) ⊎ (status ≡ statuses.OutFailed) ⊎ (status ≡ statuses.OutOfMemory)

worked_no_source : (status : Status) → IsWorked status → status ≡ statuses.SourceFailed → ⊥
worked_no_source status came failed = elim came [ inl a ↦ cc | inr more ↦ elim more [ inl b ↦ cc | inr c ↦ cc ] ]

worked_no_keeper : (status : Status) → IsWorked status → status ≡ statuses.KeeperFailed → ⊥
worked_no_keeper status came failed = elim came [ inl a ↦ cc | inr more ↦ elim more [ inl b ↦ cc | inr c ↦ cc ] ]

pub worked_no_command : (status : Status) → IsWorked status → status ≢ statuses.NoCommand
worked_no_command status came none = elim came [ inl a ↦ cc | inr more ↦ elim more [ inl b ↦ cc | inr c ↦ cc ] ]

-- where nothing is written, a workload has no memory
pub silent_memory : (status : Status) → IsWorked status → IsSilent status → status ≡ statuses.OutOfMemory
silent_memory status came silent = elim silent [
  | inl none ↦ absurd (worked_no_command status came none)
  | inr more ↦ elim more [ inl failed ↦ absurd (worked_no_source status came failed) | inr memory ↦ memory ]
]

-- ## Calls

-- a call that leaves the source and the output alone
pub cared : (call : Call) → IsCared call.status → BlamesStore call.status call.store → GivesPiece call.source
    → call.source.faults_now ≡ call.source.faults_before → call.out.now ≡ call.out.before → call.out.faults_now ≡ call.out.faults_before
    → (HasNoNotes call.status → call.notes.now ≡ call.notes.before) → OfEachCall call
cared call came blames gives source out faults quiet = record {
  status = elim came [
    | inl gone ↦ inl (gone_whole call.status gone)
    | inr more ↦ elim more [ inl memory ↦ inr (inl (inr (inr memory))) | inr failed ↦ inr (inr (inr failed)) ]
  ];
  gives = gives;
  silent = λ s. out;
  quiet = quiet;
  unbegun = λ n. absurd (cared_no_command call.status came n);
  source_cause = record { later = omega (arith, source); rose = λ s. absurd (cared_no_source call.status came s) };
  source_no_fault = λ n. source;
  out_cause = record { later = omega (arith, faults); rose = λ s. absurd (cared_no_cut call.status came s) };
  out_no_fault = λ n. faults;
  store_cause = blames.cause;
}

-- a status of a repair or a trim is one of a check
pub done_gone : (status : Status) → (status ≡ statuses.Done) ⊎ (status ≡ statuses.OutOfMemory) ⊎ (status ≡ statuses.KeeperFailed) → IsCared status
done_gone status came = elim came [ inl done ↦ inl (inl done) | inr more ↦ inr more ]

-- a call that leaves all but the output alone
pub worked : (call : Call) → IsWorked call.status → GivesPiece call.source → call.source.faults_now ≡ call.source.faults_before
    → (call.status ≡ statuses.OutOfMemory → call.out.now ≡ call.out.before)
    → HasCause call.out.faults_before call.out.faults_now (call.status ≡ statuses.OutFailed)
    → (call.status ≢ statuses.OutFailed → call.out.faults_now ≡ call.out.faults_before) → call.notes.now ≡ call.notes.before
    → call.store.faults_now ≡ call.store.faults_before → OfEachCall call
worked call came gives source silent cause no_fault notes store = record {
  status = elim came [
    | inl done ↦ inl (inl done)
    | inr more ↦ elim more [ inl cut ↦ inr (inr (inl cut)) | inr memory ↦ inr (inl (inr (inr memory))) ]
  ];
  gives = gives;
  silent = λ s. silent (silent_memory call.status came s);
  quiet = λ q. notes;
  unbegun = λ n. absurd (worked_no_command call.status came n);
  source_cause = record { later = omega (arith, source); rose = λ s. absurd (worked_no_source call.status came s) };
  source_no_fault = λ n. source;
  out_cause = cause;
  out_no_fault = no_fault;
  store_cause = record { later = omega (arith, store); rose = λ k. absurd (worked_no_keeper call.status came k) };
}

-- ## Orders

pub beyond_check : (asked : Order → Type 0) (call : Call) → asked Check → ((o : Order) → asked o → Check ≡ o)
    → OfCheck call.status call.notes call.store → OfEachCare call → OfEachCall call → GoesBeyond asked call
beyond_check asked call order one is alone each = record {
  fair = λ o input asks build given fair. absurd (subst IsBuild (sym (one o asks)) build);
  of_input = λ o input asks build given. absurd (subst IsBuild (sym (one o asks)) build);
  of_each_build = λ o asks build. absurd (subst IsBuild (sym (one o asks)) build);
  unused = λ o asks off. absurd (true≢false (subst (λ (x : Order). uses_store x ≡ false) (sym (one o asks)) off));
  unused_graphs = λ o asks off. alone.no_graphs;
  check = λ asks. is;
  repair = λ asks. let same : Check ≡ Repair = one Repair asks in absurd cc;
  trim = λ keep asks. let same : Check ≡ Trim keep = one (Trim keep) asks in absurd cc;
  of_each_care = λ o asks care. alone;
  gen = λ seed pips asks. let same : Check ≡ Gen seed pips = one (Gen seed pips) asks in absurd cc;
  none = some_order asked Check call.status order (cared_no_command call.status is.one_of);
  of_each_call = each;
}

pub beyond_repair : (asked : Order → Type 0) (call : Call) → asked Repair → ((o : Order) → asked o → Repair ≡ o)
    → OfRepair call.status call.notes call.store → OfEachCare call → OfEachCall call → GoesBeyond asked call
beyond_repair asked call order one is alone each = record {
  fair = λ o input asks build given fair. absurd (subst IsBuild (sym (one o asks)) build);
  of_input = λ o input asks build given. absurd (subst IsBuild (sym (one o asks)) build);
  of_each_build = λ o asks build. absurd (subst IsBuild (sym (one o asks)) build);
  unused = λ o asks off. absurd (true≢false (subst (λ (x : Order). uses_store x ≡ false) (sym (one o asks)) off));
  unused_graphs = λ o asks off. alone.no_graphs;
  check = λ asks. let same : Repair ≡ Check = one Check asks in absurd cc;
  repair = λ asks. is;
  trim = λ keep asks. let same : Repair ≡ Trim keep = one (Trim keep) asks in absurd cc;
  of_each_care = λ o asks care. alone;
  gen = λ seed pips asks. let same : Repair ≡ Gen seed pips = one (Gen seed pips) asks in absurd cc;
  none = some_order asked Repair call.status order (cared_no_command call.status (done_gone call.status is.one_of));
  of_each_call = each;
}

same_keep : (m n : ℕ) → Trim m ≡ Trim n → m ≡ n
same_keep m n e = cc

pub beyond_trim : (asked : Order → Type 0) (keep : ℕ) (call : Call) → asked (Trim keep) → ((o : Order) → asked o → Trim keep ≡ o)
    → OfTrim keep call.status call.notes call.store → OfEachCare call → OfEachCall call → GoesBeyond asked call
beyond_trim asked keep call order one is alone each = record {
  fair = λ o input asks build given fair. absurd (subst IsBuild (sym (one o asks)) build);
  of_input = λ o input asks build given. absurd (subst IsBuild (sym (one o asks)) build);
  of_each_build = λ o asks build. absurd (subst IsBuild (sym (one o asks)) build);
  unused = λ o asks off. absurd (true≢false (subst (λ (x : Order). uses_store x ≡ false) (sym (one o asks)) off));
  unused_graphs = λ o asks off. alone.no_graphs;
  check = λ asks. let same : Trim keep ≡ Check = one Check asks in absurd cc;
  repair = λ asks. let same : Trim keep ≡ Repair = one Repair asks in absurd cc;
  trim = λ n asks. subst (λ (k : ℕ). OfTrim k call.status call.notes call.store) (same_keep keep n (one (Trim n) asks)) is;
  of_each_care = λ o asks care. alone;
  gen = λ seed pips asks. let same : Trim keep ≡ Gen seed pips = one (Gen seed pips) asks in absurd cc;
  none = some_order asked (Trim keep) call.status order (cared_no_command call.status (done_gone call.status is.one_of));
  of_each_call = each;
}

same_seed : (a b m n : ℕ) → Gen a m ≡ Gen b n → a ≡ b
same_seed a b m n e = cc

same_pips : (a b m n : ℕ) → Gen a m ≡ Gen b n → m ≡ n
same_pips a b m n e = cc

pub beyond_gen : (asked : Order → Type 0) (seed pips : ℕ) (call : Call) → asked (Gen seed pips) → ((o : Order) → asked o → Gen seed pips ≡ o)
    → OfGen seed pips call → OfEachCall call → GoesBeyond asked call
beyond_gen asked seed pips call order one is each = record {
  fair = λ o input asks build given fair. absurd (subst IsBuild (sym (one o asks)) build);
  of_input = λ o input asks build given. absurd (subst IsBuild (sym (one o asks)) build);
  of_each_build = λ o asks build. absurd (subst IsBuild (sym (one o asks)) build);
  unused = λ o asks off. is.unkept;
  unused_graphs = λ o asks off. is.no_graphs;
  check = λ asks. let same : Gen seed pips ≡ Check = one Check asks in absurd cc;
  repair = λ asks. let same : Gen seed pips ≡ Repair = one Repair asks in absurd cc;
  trim = λ keep asks. let same : Gen seed pips ≡ Trim keep = one (Trim keep) asks in absurd cc;
  of_each_care = λ o asks care. absurd (subst IsCare (sym (one o asks)) care);
  gen = λ s n asks.
      subst (λ (k : ℕ). OfGen s k call) (same_pips seed s pips n (one (Gen s n) asks))
      (subst (λ (k : ℕ). OfGen k pips call) (same_seed seed s pips n (one (Gen s n) asks)) is);
  none = some_order asked (Gen seed pips) call.status order (worked_no_command call.status is.writes.one_of);
  of_each_call = each;
}
