-- Why nothing in a store is usable for a process.
use Rattle.std.specs.Prelude.{◌≡◌, ◌≢◌, ℕ, ◌<◌, List, [], ◌∷◌, IsTrue, Some, None, Option, slice_get}
use Rattle.std.specs.FinMap.{get}
use Rattle.sha2.specs.Sha256.{sha256}
use Rattle.bx_tree.specs.Members.{Has}
use Rattle.bx_tree.specs.Trees.{NoneNested}
use Rattle.bx_io.specs.Holdings.{Holdings}
use Rattle.pip_model_types.specs.declared.desc.Desc.{Desc}
use Rattle.observed.specs.declared.ask.Ask.{Ask}
use Rattle.observed.specs.declared.access.Answer.{Answer}
use Rattle.prints.specs.Processes.{weak_parts}
use Rattle.prints.specs.Strong.{line_of}
use Rattle.prints.specs.declared.strong_parts.AnswerLine.{AnswerLine}
use Rattle.prints.specs.declared.strong_parts.AnswerLine.TheVariants as lines
use Rattle.prints.specs.declared.strong_parts.StrongParts.{StrongParts}
use Rattle.prints.specs.declared.weak_parts.WeakParts.{WeakParts}
use Rattle.memo_format.specs.Entries.{output_paths}
use Rattle.memo_format.specs.StoreNames.{HoldsList, at_list}
use Rattle.memo_format.specs.declared.entry.Entry.{Entry}
use Rattle.memo_format.specs.declared.selector.Selector.{Selector}
use Rattle.content_store.specs.Contents.{IsContent}
use Rattle.content_store.specs.HeldEntries.{IsHeld}
use Rattle.run_record.specs.Digests.{weak_of}
use Rattle.two_phase_meaning.specs.Contents.{HoldsPaths, HoldsStrong, HoldsWeak}
use Rattle.two_phase_meaning.specs.Usable.{asked_text, fits}
use Rattle.miss_reasons.specs.declared.reason.Near.{Near}
use Rattle.miss_reasons.specs.declared.reason.NoFit.{NoFit}
use Rattle.miss_reasons.specs.declared.reason.NoFit.TheVariants as no_fits
use Rattle.miss_reasons.specs.declared.reason.Reason.{Reason}
use Rattle.miss_reasons.specs.declared.reason.Reason.TheVariants as reasons

-- ## One selector

-- its path set, asked now, gives another strong digest
pub record AsksOther (S : Holdings) (d : Desc) (see : Ask → Answer) (s : Selector) (asks : List Ask) : Type 0 where
  pub paths : HoldsPaths S s.paths asks
  pub other : sha256 (asked_text d see s.paths asks) ≢ s.strong

-- The ask at this place is the first whose stored line is not that of what the view answers; the lines are those of the
-- strong text that is held.
pub record FirstOther (S : Holdings) (see : Ask → Answer) (s : Selector) (asks : List Ask) (ask : Ask) (line : AnswerLine)
    : Type 0 where
  pub strong : StrongParts
  pub held : HoldsStrong S s.strong strong
  pub place : ℕ
  pub asked : slice_get asks place ≡ Some ask
  pub stored : slice_get strong.lines place ≡ Some line
  pub differs : line ≢ line_of (see ask)
  pub before : (i : ℕ) (q : Ask) → i < place → slice_get asks i ≡ Some q → slice_get strong.lines i ≡ Some (line_of (see q))

-- what is told of the names that a line says by digest
abbrev pub AreStoredNames : Holdings → AnswerLine → Option (List ℕ) → Type 0
AreStoredNames S line None = Unit {0}
AreStoredNames S line (Some names) = (line ≡ lines.Names (sha256 names)) × IsContent S (sha256 names) names

-- its entry is held
abbrev pub HasEntry : Holdings → Selector → (Entry → Type 0) → Type 0
HasEntry S s P = (e : Entry) × IsHeld S s.strong e × P e

-- an entry that this process may take
abbrev pub IsTaken : Desc → Selector → Entry → Type 0
IsTaken d s e =
    (e.weak ≡ weak_of d) × (e.paths ≡ s.paths) × IsTrue (fits d.process (output_paths e.outputs))
    × NoneNested (output_paths e.outputs)

-- Why a selector is not usable: its path set is not held; an ask is answered otherwise; its entry is not held, or is not
-- one for this process; an output is not held.
abbrev pub IsNoFit : Holdings → Desc → (Ask → Answer) → Selector → NoFit → Type 0
IsNoFit S d see s no_fits.NoPaths = (asks : List Ask) → HoldsPaths S s.paths asks → ⊥
IsNoFit S d see s (no_fits.Answered ask line now names) =
    (asks : List Ask) × AsksOther S d see s asks × FirstOther S see s asks ask line × (now ≡ see ask)
    × AreStoredNames S line names
IsNoFit S d see s no_fits.AnsweredOtherwise = (asks : List Ask) × AsksOther S d see s asks
IsNoFit S d see s no_fits.NoEntry = (e : Entry) → IsHeld S s.strong e → ⊥
IsNoFit S d see s no_fits.OtherEntry = HasEntry S s (λ e. IsTaken d s e → ⊥)
IsNoFit S d see s (no_fits.NoOutput output) =
    HasEntry S s (λ e. Has e.outputs output × ((bytes : List ℕ) → IsContent S output.digest bytes → ⊥))

-- one for each selector, in order
abbrev pub AreNoFits : Holdings → Desc → (Ask → Answer) → List Selector → List NoFit → Type 0
AreNoFits S d see [] [] = Unit {0}
AreNoFits S d see [] (why ∷ more) = ⊥
AreNoFits S d see (s ∷ rest) [] = ⊥
AreNoFits S d see (s ∷ rest) (why ∷ more) = IsNoFit S d see s why × AreNoFits S d see rest more

-- ## A process

-- a weak text that says this is held beside a list of selectors
abbrev pub IsStored : Holdings → WeakParts → Type 0
IsStored S parts = (digest : List ℕ) × HoldsWeak S digest parts

-- what is told of the nearest description, if one is, beside the own one
abbrev pub IsNear : Holdings → Desc → Option Near → Type 0
IsNear S d None = Unit {0}
IsNear S d (Some near) = IsStored S near.stored × (near.own ≡ weak_parts d)

-- Why nothing is usable for a process on this view: no selectors are held for it; what is held there is ill-formed; or none
-- of the selectors is usable, each for its reason.
abbrev pub IsReason : Holdings → Desc → (Ask → Answer) → Reason → Type 0
IsReason S d see (reasons.NoList near) = (get S (at_list (weak_of d)) ≡ None) × IsNear S d near
IsReason S d see (reasons.BadList weak) =
    (weak ≡ weak_of d) × ((bytes : List ℕ) × (get S (at_list (weak_of d)) ≡ Some bytes))
    × ((list : List Selector) → HoldsList S (weak_of d) list → ⊥)
IsReason S d see (reasons.NoneFits list why) = HoldsList S (weak_of d) list × AreNoFits S d see list why
