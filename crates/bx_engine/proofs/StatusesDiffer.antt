-- Kinds of statuses exclude one another.
use Rattle.std.proofs.Common.{◌≡◌, ◌⊎◌, inl, inr, Bool, true, false, cond, List, refl, sym, subst}
use Rattle.std.specs.List.{list_all}
use Rattle.violations.specs.Verdicts.{is_success}
use Rattle.violations.specs.declared.verdict.Verdict.{Verdict}
use Rattle.bx_engine.specs.Counting.{gone_status}
use Rattle.bx_engine.specs.declared.status.Status.{Status}
use Rattle.bx_engine.specs.declared.status.Status.TheVariants as statuses
use Rattle.bx_engine.specs.Statuses.{HasNoBuild, HasNoNotes, IsGone, IsRefusal, IsSilent, IsWhole}

pub no_command_writes_nothing : (IsWhole statuses.NoCommand ⊎ (statuses.NoCommand ≡ statuses.OutFailed)) → ⊥
no_command_writes_nothing h = elim h [
  | inl whole ↦ elim whole [ inl a ↦ cc | inr b ↦ elim b [ inl c ↦ cc | inr d ↦ elim d [ inl e ↦ cc | inr f ↦ cc ] ] ]
  | inr failed ↦ cc
]

-- ## Refusals

pub refusal_whole : (status : Status) → IsRefusal status → IsWhole status
refusal_whole status r = elim r [ inl a ↦ inr (inr (inl a)) | inr b ↦ inr (inr (inr b)) ]

pub gone_whole : (status : Status) → IsGone status → IsWhole status
gone_whole status g = elim g [ inl a ↦ inl a | inr b ↦ inr (inl b) ]

gone_if : (good : Bool) → IsGone (cond good statuses.Done statuses.FailuresFound)
gone_if true = inl refl
gone_if false = inr refl

-- the status of pips that were gone through
pub gone_is : (status : Status) (verdicts : List Verdict) → status ≡ gone_status verdicts → IsGone status
gone_is status verdicts e = subst IsGone (sym e) (gone_if (list_all is_success verdicts))

pub gone_or_refused : (status : Status) → IsGone status → IsRefusal status → ⊥
gone_or_refused status g r = elim g [
  | inl a ↦ elim r [ inl c ↦ cc | inr d ↦ cc ]
  | inr b ↦ elim r [ inl c ↦ cc | inr d ↦ cc ]
]

-- that `out` failed is no refusal
cut_or_refused : (status : Status) → status ≡ statuses.OutFailed → IsRefusal status → ⊥
cut_or_refused status cut r = elim r [ inl c ↦ cc | inr d ↦ cc ]

-- a build that was answered has the status of the response
pub gone_same : (status result : Status) → (result ≡ status) ⊎ (result ≡ statuses.OutFailed) → IsGone result → result ≡ status
gone_same status result s gone = elim s [
  | inl same ↦ same
  | inr cut ↦ elim gone [ inl a ↦ cc | inr b ↦ cc ]
]

-- a refusal that was answered is that of the response
pub refused_status : (status result : Status) → (result ≡ status) ⊎ (result ≡ statuses.OutFailed) → IsRefusal result → IsRefusal status
refused_status status result s r = elim s [
  | inl same ↦ subst (λ (x : Status). IsRefusal x) same r
  | inr cut ↦ absurd (cut_or_refused result cut r)
]

not_whole : (status other : Status) → status ≡ other → (IsWhole other → ⊥) → IsWhole status → ⊥
not_whole status other same no_whole whole = no_whole (subst IsWhole same whole)

source_failed : IsWhole statuses.SourceFailed → ⊥
source_failed h = elim h [ inl a ↦ cc | inr b ↦ elim b [ inl c ↦ cc | inr d ↦ elim d [ inl e ↦ cc | inr f ↦ cc ] ] ]

pub out_failed : IsWhole statuses.OutFailed → ⊥
out_failed h = elim h [ inl a ↦ cc | inr b ↦ elim b [ inl c ↦ cc | inr d ↦ elim d [ inl e ↦ cc | inr f ↦ cc ] ] ]

out_of_memory : IsWhole statuses.OutOfMemory → ⊥
out_of_memory h = elim h [ inl a ↦ cc | inr b ↦ elim b [ inl c ↦ cc | inr d ↦ elim d [ inl e ↦ cc | inr f ↦ cc ] ] ]

keeper_failed : IsWhole statuses.KeeperFailed → ⊥
keeper_failed h = elim h [ inl a ↦ cc | inr b ↦ elim b [ inl c ↦ cc | inr d ↦ elim d [ inl e ↦ cc | inr f ↦ cc ] ] ]

no_command : IsWhole statuses.NoCommand → ⊥
no_command whole = no_command_writes_nothing (inl whole)

-- where something was written, the status does not say that nothing was
pub not_silent : (status : Status) → IsWhole status ⊎ (status ≡ statuses.OutFailed) → IsSilent status → ⊥
not_silent status came silent = elim came [
  | inl whole ↦ elim silent [
    | inl a ↦ not_whole status statuses.NoCommand a no_command whole
    | inr b ↦ elim b [
      | inl c ↦ not_whole status statuses.SourceFailed c source_failed whole
      | inr d ↦ not_whole status statuses.OutOfMemory d out_of_memory whole
    ]
  ]
  | inr cut ↦ elim silent [ inl a ↦ cc | inr b ↦ elim b [ inl c ↦ cc | inr d ↦ cc ] ]
]

-- an answer has the status of the response, which is whole, or says that `out` failed
pub answered_status : (status result : Status) → IsWhole status → (result ≡ status) ⊎ (result ≡ statuses.OutFailed)
    → IsWhole result ⊎ (result ≡ statuses.OutFailed)
answered_status status result whole s = elim s [ inl same ↦ inl (subst IsWhole (sym same) whole) | inr cut ↦ inr cut ]

-- where the whole result was written, notes are left out of a refusal alone
pub quiet_refusal : (status : Status) → IsWhole status → HasNoNotes status → IsRefusal status
quiet_refusal status whole quiet = elim quiet [
  | inl a ↦ inl a
  | inr b ↦ elim b [
    | inl c ↦ inr c
    | inr d ↦ elim d [
      | inl e ↦ absurd (not_whole status statuses.SourceFailed e source_failed whole)
      | inr f ↦ elim f [
        | inl g ↦ absurd (not_whole status statuses.OutFailed g out_failed whole)
        | inr k ↦ elim k [
          | inl m ↦ absurd (not_whole status statuses.OutOfMemory m out_of_memory whole)
          | inr n ↦ absurd (not_whole status statuses.KeeperFailed n keeper_failed whole)
        ]
      ]
    ]
  ]
]

-- no status that a build answers after it was begun says that none was begun
answered_or_not : (status : Status) → (IsWhole status ⊎ (status ≡ statuses.OutFailed) ⊎ (status ≡ statuses.OutOfMemory))
    → (status ≡ statuses.NoCommand) ⊎ (status ≡ statuses.SourceFailed) → ⊥
answered_or_not status came none = elim none [
  | inl a ↦ elim came [
    | inl whole ↦ elim whole [ inl b ↦ cc | inr c ↦ elim c [ inl d ↦ cc | inr e ↦ elim e [ inl f ↦ cc | inr g ↦ cc ] ] ]
    | inr b ↦ elim b [ inl c ↦ cc | inr d ↦ cc ]
  ]
  | inr a ↦ elim came [
    | inl whole ↦ elim whole [ inl b ↦ cc | inr c ↦ elim c [ inl d ↦ cc | inr e ↦ elim e [ inl f ↦ cc | inr g ↦ cc ] ] ]
    | inr b ↦ elim b [ inl c ↦ cc | inr d ↦ cc ]
  ]
]

-- that memory was wanting says that a build may have begun
pub memory_is_no_refusal : HasNoBuild statuses.OutOfMemory → ⊥
memory_is_no_refusal none = elim none [
  | inl a ↦ cc
  | inr b ↦ elim b [ inl c ↦ cc | inr r ↦ elim r [ inl d ↦ cc | inr e ↦ cc ] ]
]

-- a build that was answered and not begun was refused
pub not_begun : (status : Status) → (IsWhole status ⊎ (status ≡ statuses.OutFailed) ⊎ (status ≡ statuses.OutOfMemory)) → HasNoBuild status → IsRefusal status
not_begun status came none = elim none [
  | inl a ↦ absurd (answered_or_not status came (inl a))
  | inr b ↦ elim b [
    | inl c ↦ absurd (answered_or_not status came (inr c))
    | inr r ↦ r
  ]
]

-- no build says that the store failed
pub not_keeper : (status : Status) → IsWhole status ⊎ IsSilent status ⊎ (status ≡ statuses.OutFailed) → status ≡ statuses.KeeperFailed → ⊥
not_keeper status came failed = elim came [
  | inl whole ↦ not_whole status statuses.KeeperFailed failed keeper_failed whole
  | inr more ↦ elim more [
    | inl silent ↦ elim silent [ inl a ↦ cc | inr b ↦ elim b [ inl c ↦ cc | inr d ↦ cc ] ]
    | inr cut ↦ cc
  ]
]
