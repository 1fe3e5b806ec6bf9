-- What is usable stays so while records of other processes are saved, wherever each save was cut off; and what was saved whole is usable.
use Rattle.std.proofs.Common.{◌≡◌, ◌⊎◌, ℕ, List, [], ◌∷◌, map, Some, sym, ◌∙◌, subst, inl, inr}
use Rattle.std.specs.Prelude.{IsSome}
use Rattle.std.specs.List.{AllByRecursion}
use Rattle.std.proofs.lemmas.Option.{same_Some}
use Rattle.pip_model_types.specs.declared.desc.Desc.{Desc}
use Rattle.observed.specs.declared.ask.Ask.{Ask}
use Rattle.observed.specs.declared.access.Answer.{Answer}
use Rattle.bx_io.specs.Holdings.{Change, Holdings, StoreTold, held_in, holdings_after}
use Rattle.bx_io.proofs.Changes.{told_after}
use Rattle.run_record.specs.Facts.{Facts}
use Rattle.memo_format.specs.StoreNames.{HoldsBlob}
use Rattle.memo_format.specs.declared.selector.Selector.{Selector}
use Rattle.run_record.specs.Collisions.{NoCollision}
use Rattle.run_record.specs.Digests.{weak_of}
use Rattle.two_phase_meaning.specs.Saving.{ComparedInSave, ComparedInStay, FilesFit, puts_of, record_selector, with_first}
use Rattle.two_phase_meaning.specs.Usable.{UsableAt, asked_text}
use Rattle.two_phase_meaning.proofs.Again as again
use Rattle.two_phase_meaning.proofs.Stays.{stays_in_part}
use Rattle.two_phase.specs.Putting.{PutsAll, PutsUpTo, planned}
use Rattle.two_phase.proofs.Applied.{Made, made_of}
use Rattle.retire.specs.Saving.{PutsEach}
use Rattle.retire.proofs.Chain.{IsReady, step_within}
use Rattle.retire.proofs.Putting.{each_told}

-- the record is of a process with another weak text
abbrev pub IsOther : Desc → Facts → Type 0
IsOther d f = weak_of f.desc ≡ weak_of d → ⊥

-- nothing was put for the record, or it is of a process with another weak text
abbrev pub IsApart : Desc → (f : Facts) (before between : StoreTold) → PutsUpTo before between f → Type 0
IsApart d f before between p = (p.first ≡ []) ⊎ IsOther d f

-- so of each of the records
abbrev pub AreApart : Desc → (fs : List Facts) (before now : StoreTold) → PutsEach before fs now → Type 0
AreApart d [] before now p = Unit {0}
AreApart d (f ∷ fs) before now p = IsApart d f before p.0 p.1 × AreApart d fs p.0 now p.2

module _ (M : List ℕ → Type 0) (apart : NoCollision M) where
  abbrev Within : Holdings → Type 0
  Within S = (x : List ℕ) → HoldsBlob S x → M x

  put_met : (held : Holdings) (f : Facts) → Within held → IsReady M f → (x : List ℕ) → ComparedInSave held f x → M x
  put_met held f within ready x h = elim h [ inl there ↦ within x there | inr put ↦ ready.met x put ]

  -- ## A process that is usable

  module _ (d : Desc) (see : Ask → Answer) (s : Selector) (asks : List Ask) (asked : M (asked_text d see s.paths asks)) where
    stay_once : (held : Holdings) (f : Facts) (before between : StoreTold) (p : PutsUpTo before between f) → Within held → IsReady M f → IsApart d f before between p
        → UsableAt held d see s asks → UsableAt (holdings_after held p.first) d see s asks
    stay_once held f before between p within ready other u = elim other [
      | inl none ↦ subst (λ (cs : List Change). UsableAt (holdings_after held cs) d see s asks) (sym none) u
      | inr another ↦
          stays_in_part held f d see s asks (λ x y h k e. apart x y (met_of x h) (met_of y k) e) another (with_first (record_selector f) p.old) p.first p.is_first u
    ]
      where
        met_of : (z : List ℕ) → ComparedInStay held f d see s.paths asks z → M z
        met_of z h = elim h [ inl put ↦ put_met held f within ready z put | inr is ↦ subst M is asked ]

    pub stay : (fs : List Facts) (held : Holdings) (before now : StoreTold) → held_in before ≡ Some held → AllByRecursion (IsReady M) fs → Within held
        → (p : PutsEach before fs now) → AreApart d fs before now p → UsableAt held d see s asks → (S : Holdings) → held_in now ≡ Some S → UsableAt S d see s asks
    stay [] held before now was ready within p others u S is =
        subst (λ (T : Holdings). UsableAt T d see s asks) (same_Some held S (sym was ∙ p.held S is)) u
    stay (f ∷ fs) held before now was ready within p others u S is =
        let one : PutsUpTo before p.0 f = p.1 in
        let there : (T : Holdings) × (held_in p.0 ≡ Some T) = each_told fs p.0 now S is p.2 in
        let step : Made held before one.first p.0 = made_of one.first held there.0 before p.0 was there.1 one.applies in
        stay fs (holdings_after held step.made) p.0 now (told_after before p.0 step.made held there.0 was there.1 step.makes) ready.1
        (step_within M apart held f before p.0 within ready.0 one step) p.2 others.1
        (subst (λ (T : Holdings). UsableAt T d see s asks) (sym step.same) (stay_once held f before p.0 one within ready.0 others.0 u)) S is

  -- ## A record that was saved whole

  pub own : (held : Holdings) (f : Facts) (before between : StoreTold) (p : PutsAll before between f) → held_in before ≡ Some held → IsSome (held_in between)
      → Within held → IsReady M f → FilesFit f → (see : Ask → Answer) → f.answers ≡ map see f.paths
      → UsableAt (holdings_after held (planned f p.old)) f.desc see (record_selector f) f.paths
  own held f before between p was tells within ready fit see now =
      subst (λ (list : List Selector). UsableAt (holdings_after held (puts_of f (with_first (record_selector f) list))) f.desc see (record_selector f) f.paths)
      (sym (p.old_is tells held was))
      (again.saved_is_usable held f p.spelled (λ x y h k e. apart x y (put_met held f within ready x h) (put_met held f within ready y k) e) fit see now)
