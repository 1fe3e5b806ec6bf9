-- What is promised of a check, from what the check of the store promises.
use Rattle.std.proofs.Common.{◌≡◌, ◌≢◌, ◌⊎◌, ◌↔◌, inl, inr, ℕ, Bool, true, false, true≢false, cond, List, map, Option, Some, None, refl, sym, ap, ◌∙◌, subst}
use Rattle.std.specs.Prelude.{IsSome}
use Rattle.std.specs.FinMap.{keys}
use Rattle.bx_io.specs.Holdings.{Holdings, Keeps, held_in}
use Rattle.two_phase.specs.Calls.{KeeperCall}
use Rattle.two_phase_meaning.specs.Honest.{Honest}
use Rattle.cache_care_check.specs.CareLists.{IsCareList, has_bad_remark, line_remark, remarks_of}
use Rattle.cache_care_check.specs.Findings.{AreFindings}
use Rattle.cache_care_check.specs.declared.checking.CareList.{CareList}
use Rattle.cache_care_check.specs.declared.fault.CareFault.{CareFault}
use Rattle.cache_care_check.specs.declared.fault.CareFault.TheVariants as faults
use Rattle.cache_care_check.specs.declared.surveying.Finding.{Finding}
use Rattle.bx_engine.specs.Calls.{StoreChange, Written}
use Rattle.bx_engine.specs.Care.{BlamesStore, OfCheck, check_text, fault_status}
use Rattle.bx_engine.specs.Counting.{AppendsNoted}
use Rattle.bx_engine.specs.Statuses.{HasNoNotes, IsGone}
use Rattle.bx_engine.specs.declared.status.Status.{Status}
use Rattle.bx_engine.specs.declared.status.Status.TheVariants as statuses

-- ## Any call on the store

-- the status of a call that stopped
abbrev pub IsStopped : Status → Type 0
IsStopped status = (status ≡ statuses.OutOfMemory) ⊎ (status ≡ statuses.KeeperFailed)

pub stopped_status : (fault : CareFault) (status : Status) → status ≡ fault_status fault → IsStopped status
stopped_status faults.Failed status is = inr is
stopped_status faults.Memory status is = inl is

memory_no_failure : faults.Memory ≢ faults.Failed
memory_no_failure e = cc

-- the status of a call that stopped blames the store just where the call did
pub stopped_blames : (fault : CareFault) (status : Status) (store : StoreChange) (b0 b1 : Option ℕ) (A : Type 0) → status ≡ fault_status fault
    → KeeperCall b0 b1 store.faults_before store.faults_now A → (fault ≡ faults.Failed → A) → (A → fault ≡ faults.Failed)
    → BlamesStore status store
stopped_blames faults.Failed status store b0 b1 A is call to from = record {
  cause = record { later = call.cause.later; rose = λ s. call.cause.rose (to refl) };
  no_fault = λ n. absurd (n is);
}
stopped_blames faults.Memory status store b0 b1 A is call to from = record {
  cause = record { later = call.cause.later; rose = λ s. let e : statuses.OutOfMemory ≡ statuses.KeeperFailed = sym is ∙ s in absurd cc };
  no_fault = λ n. call.no_fault (λ a. memory_no_failure (from a));
}

-- a call that came to its end blames nothing
pub ended_blames : (status : Status) (store : StoreChange) (b0 b1 : Option ℕ) (A : Type 0)
    → KeeperCall b0 b1 store.faults_before store.faults_now A → (A → ⊥) → (status ≡ statuses.KeeperFailed → ⊥) → BlamesStore status store
ended_blames status store b0 b1 A call none other = record {
  cause = record { later = call.cause.later; rose = λ s. absurd (other s) };
  no_fault = λ n. call.no_fault none;
}

pub not_gone : (status : Status) → IsStopped status → IsGone status → ⊥
not_gone status ended gone = elim ended [
  | inl memory ↦ elim gone [ inl a ↦ cc | inr b ↦ cc ]
  | inr failed ↦ elim gone [ inl a ↦ cc | inr b ↦ cc ]
]

pub memory_not_gone : IsGone statuses.OutOfMemory → ⊥
memory_not_gone gone = not_gone statuses.OutOfMemory (inl refl) gone

-- a call that went through all is not silent about it
pub gone_noted : (status : Status) → IsGone status → HasNoNotes status → ⊥
gone_noted status gone quiet = elim quiet [
  | inl a ↦ elim gone [ inl x ↦ cc | inr y ↦ cc ]
  | inr b ↦ elim b [
    | inl c ↦ elim gone [ inl x ↦ cc | inr y ↦ cc ]
    | inr d ↦ elim d [
      | inl e ↦ elim gone [ inl x ↦ cc | inr y ↦ cc ]
      | inr f ↦ elim f [
        | inl g ↦ elim gone [ inl x ↦ cc | inr y ↦ cc ]
        | inr k ↦ elim k [
          | inl m ↦ elim gone [ inl x ↦ cc | inr y ↦ cc ]
          | inr n ↦ elim gone [ inl x ↦ cc | inr y ↦ cc ]
        ]
      ]
    ]
  ]
]

-- what is told after a call that changed nothing was told before it
pub same_told : (S : Holdings) (store : StoreChange) → Keeps store.before store.now → held_in store.before ≡ Some S → IsSome (held_in store.now)
    → held_in store.now ≡ Some S
same_told S store kept before still = by_now (held_in store.now) still kept.held
  where
    by_now : (now : Option Holdings) → IsSome now → ((T : Holdings) → now ≡ Some T → held_in store.before ≡ Some T) → now ≡ Some S
    by_now None still stays = absurd cc
    by_now (Some T) still stays = sym (stays T refl) ∙ before

-- ## A check

-- a check that did not come to its end
pub check_stopped : (status : Status) (notes : Written) (store : StoreChange) → IsStopped status → BlamesStore status store
    → Keeps store.before store.now → OfCheck status notes store
check_stopped status notes store ended blames kept = record {
  one_of = inr ended;
  blames = blames;
  kept = kept;
  tells = λ gone. absurd (not_gone status ended gone);
  honest = λ S is still gone. absurd (not_gone status ended gone);
}

abbrev pub checked_status : Bool → Status
checked_status bad = cond bad statuses.FailuresFound statuses.Done

of_bad : (bad : Bool) → IsGone (checked_status bad)
of_bad true = inr refl
of_bad false = inl refl

good_done : (bad : Bool) → (checked_status bad ≡ statuses.Done) ↔ (bad ≡ false)
good_done true = (λ e. absurd cc, λ e. absurd (true≢false e))
good_done false = (λ e. refl, λ e. refl)

-- what is told of a store is what holds of it
abbrev pub Told : StoreChange → CareList → Type 0
Told store list = (S : Holdings) → held_in store.now ≡ Some S → IsCareList S list

-- the status of a check that came to its end, unless memory was wanting for its notes
abbrev pub IsCheckedAs : Status → CareList → Type 0
IsCheckedAs status list = (status ≡ checked_status (has_bad_remark (map line_remark list.lines.items))) ⊎ (status ≡ statuses.OutOfMemory)

pub checked_gone : (status : Status) (list : CareList) → IsCheckedAs status list → IsGone status ⊎ (status ≡ statuses.OutOfMemory)
checked_gone status list came = elim came [
  | inl is ↦ inl (subst IsGone (sym is) (of_bad (has_bad_remark (map line_remark list.lines.items))))
  | inr memory ↦ inr memory
]

pub checked_no_keeper : (status : Status) (list : CareList) → IsCheckedAs status list → status ≡ statuses.KeeperFailed → ⊥
checked_no_keeper status list came failed = elim (checked_gone status list came) [
  | inl gone ↦ elim gone [ inl a ↦ cc | inr b ↦ cc ]
  | inr memory ↦ cc
]

pub checked_not_memory : (status : Status) (list : CareList) → status ≡ checked_status (has_bad_remark (map line_remark list.lines.items))
    → status ≡ statuses.OutOfMemory → ⊥
checked_not_memory status list is memory =
    memory_not_gone (subst IsGone (sym is ∙ memory) (of_bad (has_bad_remark (map line_remark list.lines.items))))

-- a check that came to its end
pub check_done : (status : Status) (list : CareList) (notes : Written) (store : StoreChange)
    → status ≡ checked_status (has_bad_remark (map line_remark list.lines.items)) → BlamesStore status store → Keeps store.before store.now
    → Told store list → AppendsNoted (check_text list) notes
    → ((S : Holdings) (found : List Finding) → AreFindings S (keys S) found
    → (Honest S ↔ (has_bad_remark (remarks_of (keys S) found) ≡ false)))
    → OfCheck status notes store
check_done status list notes store status_is blames kept told noted tells =
    let bad = has_bad_remark (map line_remark list.lines.items) in
    record {
      one_of = inl (subst IsGone (sym status_is) (of_bad bad));
      blames = blames;
      kept = kept;
      tells = λ gone. record {
        list = list;
        status_is = status_is;
        noted = noted;
        is = λ S is still. told S (same_told S store kept is still);
      };
      honest = λ S is still gone.
          let l = told S (same_told S store kept is still) in
          let t = tells S l.found l.findings in
          let same : bad ≡ has_bad_remark (remarks_of (keys S) l.found) = ap has_bad_remark l.lines in
          let d = good_done bad in (
            λ e. t.1 (sym same ∙ d.0 (sym status_is ∙ e)),
            λ h. status_is ∙ d.1 (same ∙ t.0 h),
          );
    }

-- a check whose store was gone through
pub check_told : (status : Status) (list : CareList) (notes : Written) (store : StoreChange) → IsCheckedAs status list → BlamesStore status store
    → Keeps store.before store.now → Told store list → (IsGone status → AppendsNoted (check_text list) notes)
    → ((S : Holdings) (found : List Finding) → AreFindings S (keys S) found
    → (Honest S ↔ (has_bad_remark (remarks_of (keys S) found) ≡ false)))
    → OfCheck status notes store
check_told status list notes store came blames kept told noted tells = elim came [
  | inl is ↦
      check_done status list notes store is blames kept told
      (noted (subst IsGone (sym is) (of_bad (has_bad_remark (map line_remark list.lines.items))))) tells
  | inr memory ↦ check_stopped status notes store (inl memory) blames kept
]
