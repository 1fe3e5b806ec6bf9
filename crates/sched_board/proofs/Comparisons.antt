-- What comparing by digest says of what is shown.
use Rattle.std.proofs.Common.{◌≡◌, ◌≢◌, ◌↔◌, ℕ, ◌+◌, true, List, map, Option, Some, None, refl, ap, sym, ◌∙◌, subst, inl, inr}
use Rattle.std.specs.Prelude.{IfOk, IfSome, IsSome, IsSomeAnd, MatchOption, Result, Ok, Err, slice_get}
use Rattle.bx_tree.specs.Trees.{Files}
use Rattle.pip_model_types.specs.declared.desc.Desc.{Desc}
use Rattle.pip_model_types.specs.declared.pip.ProcessDesc.{ProcessDesc}
use Rattle.pip_model.specs.Plans.{PlanData}
use Rattle.observed.specs.declared.ask.Ask.{Ask}
use Rattle.observed.specs.declared.access.Answer.{Answer}
use Rattle.pip_view_inputs.specs.Plain.{process_in}
use Rattle.pip_view_inputs.specs.Results.{ByPip}
use Rattle.run_record.specs.Digests.{IsReadBack, digest_asked, digest_of_line, weak_of}
use Rattle.run_record.specs.Facts.{Facts, Sound}
use Rattle.run_record.specs.Matches.{Compares, FirstDiffer}
use Rattle.run_record.specs.declared.matching.LineDifference.{LineDifference}
use Rattle.run_record.specs.declared.matching.Match.TheVariants as matching
use Rattle.memo_format.specs.Found.{FoundParts}
use Rattle.sched_board_slots.specs.Slots.{HitHolds, IsOwnFound, IsOwnRecord, is_good_outcome, own_desc, own_view}
use Rattle.run_record.specs.Holding.{HoldsNow}
use Rattle.run_record.proofs.SameWork.{read_both}
use Rattle.sched_board_slots.proofs.Accepted.{hit_agrees, holds_agrees}
use Rattle.sched_board.specs.Board.{Difference}
use Rattle.sched_board.specs.Publishing.{Compared, ComparedHit, ComparedRun, DiffersAt, ShownDiffers}
use Rattle.sched_board.specs.declared.shown.Shown.TheVariants as shown

abbrev pub differ : ℕ → List ℕ → List ℕ → Difference
differ index held own = record { index = index; held = held; own = own }

same_difference : (index : ℕ) (held held' own own' : List ℕ) → held ≡ held' → own ≡ own' → differ index held own ≡ differ index held' own'
same_difference index held held' own own' eh eo = ap (λ (h : List ℕ). differ index h own) eh ∙ ap (differ index held') eo

pub is_difference : (d : Difference) (index : ℕ) (held own : List ℕ) → d.index ≡ index → d.held ≡ held → d.own ≡ own → d ≡ differ index held own
is_difference d index held own ei eh eo = ap (λ (i : ℕ). differ i d.held d.own) ei ∙ same_difference index d.held held d.own own eh eo

-- what a comparison of a record says, where the pip is this process or none
abbrev pub RanCompared : PlanData → Files → ByPip → ℕ → Facts → Option ProcessDesc → Option Difference → Type 0
RanCompared plan tree inputs pip facts o None =
    (is_good_outcome facts.outcome ≡ is_good_outcome facts.outcome) × IsOwnRecord plan tree inputs pip facts o
RanCompared plan tree inputs pip facts o (Some d) = ShownDiffers plan tree inputs pip (shown.Ran facts) d o

-- and of what a lookup found
abbrev pub HitCompared : PlanData → Files → ByPip → ℕ → FoundParts → Option ProcessDesc → Option Difference → Type 0
HitCompared plan tree inputs pip found o None = (true ≡ true) × IsOwnFound plan tree inputs pip found o
HitCompared plan tree inputs pip found o (Some d) = ShownDiffers plan tree inputs pip (shown.Hit found) d o

module _ (plan : PlanData) (tree : Files) (inputs : ByPip) (pip : ℕ) (own : Desc) (see : Ask → Answer) (view : see ≡ own_view plan tree inputs pip) where
  abbrev IsOwn : Option ProcessDesc → Type 0
  IsOwn o = IsSomeAnd o (λ (process : ProcessDesc). own ≡ own_desc plan tree inputs process)

  abbrev lines_of : (Ask → Answer) → List Ask → List (List ℕ)
  lines_of a asks = map (digest_asked a) asks

  -- ## Records

  pub ran_same : (facts : Facts) (o : Option ProcessDesc) → IsOwn o → Sound facts → IsReadBack own → IsReadBack facts.desc → Compares own facts see matching.Same
      → IsOwnRecord plan tree inputs pip facts o
  ran_same facts None is sound read read_held same = absurd is
  ran_same facts (Some process) is sound read read_held same = (
    sound,
    read_held,
    subst IsReadBack is read,
    (same.0 ∙ ap weak_of is, same.1 ∙ ap (λ (a : Ask → Answer). lines_of a facts.paths) view),
  )

  pub ran_other : (facts : Facts) (held now : List ℕ) (o : Option ProcessDesc) → IsOwn o → Compares own facts see (matching.OtherDesc held now)
      → ShownDiffers plan tree inputs pip (shown.Ran facts) (differ 0 held now) o
  ran_other facts held now None is c = absurd is
  ran_other facts held now (Some process) is c =
      let mine : now ≡ weak_of (own_desc plan tree inputs process) = c.1 ∙ ap weak_of is in
      inl (λ same. c.2 (c.0 ∙ same ∙ sym mine), same_difference 0 held (weak_of facts.desc) now (weak_of (own_desc plan tree inputs process)) c.0 mine)

  pub ran_differs : (facts : Facts) (index : ℕ) (held now : List ℕ) (o : Option ProcessDesc) → IsOwn o → Compares own facts see (matching.Differs index held now)
      → ShownDiffers plan tree inputs pip (shown.Ran facts) (differ (index + 1) held now) o
  ran_differs facts index held now None is c = absurd is
  ran_differs facts index held now (Some process) is c =
      inr (
        c.0 ∙ ap weak_of is,
        index,
        refl,
        subst (λ (a : Ask → Answer). FirstDiffer (map digest_of_line facts.answers) (lines_of a facts.paths) index held now) view c.1,
      )

  pub ran_compared : (facts : Facts) (o : Option ProcessDesc) (d : Option Difference) → IsOwn o → ComparedRun own see facts d
      → RanCompared plan tree inputs pip facts o d
  ran_compared facts o None is (sound, read, read_held, same) = (refl, ran_same facts o is sound read read_held same)
  ran_compared facts o (Some d) is (inl (first, other)) =
      subst (λ (x : Difference). ShownDiffers plan tree inputs pip (shown.Ran facts) x o) (sym (is_difference d 0 d.held d.own first refl refl))
      (ran_other facts d.held d.own o is other)
  ran_compared facts o (Some d) is (inr (k, place, differs)) =
      subst (λ (x : Difference). ShownDiffers plan tree inputs pip (shown.Ran facts) x o) (sym (is_difference d (k + 1) d.held d.own place refl refl))
      (ran_differs facts k d.held d.own o is differs)

  pub ran_answer : {M : Type 0} (facts : Facts) (r : Result (Option Difference) M) → IsOwn (process_in (slice_get plan.pips pip))
      → IfOk r (ComparedRun own see facts) → IfOk r (Compared plan tree inputs pip (shown.Ran facts))
  ran_answer facts (Err e) is h = h
  ran_answer facts (Ok None) is h = ran_compared facts (process_in (slice_get plan.pips pip)) None is h
  ran_answer facts (Ok (Some d)) is h = ran_compared facts (process_in (slice_get plan.pips pip)) (Some d) is h

  -- ## Hits

  pub hit_compared : (found : FoundParts) (o : Option ProcessDesc) (d : Option Difference) → IsOwn o → ComparedHit own see found d
      → HitCompared plan tree inputs pip found o d
  hit_compared found None None is h = absurd is
  hit_compared found None (Some d) is h = absurd is
  hit_compared found (Some process) None is (read, weak, lines) =
      (refl, (subst IsReadBack is read, (weak ∙ ap weak_of is, lines ∙ ap (λ (a : Ask → Answer). lines_of a found.paths) view)))
  hit_compared found (Some process) (Some d) is h =
      subst (λ (a : Ask → Answer). DiffersAt found.entry.weak (weak_of (own_desc plan tree inputs process)) (map digest_of_line found.answers) (lines_of a found.paths) d) view
      (subst (λ (x : Desc). DiffersAt found.entry.weak (weak_of x) (map digest_of_line found.answers) (lines_of see found.paths) d) is h)

  pub hit_answer : {M : Type 0} (found : FoundParts) (r : Result (Option Difference) M) → IsOwn (process_in (slice_get plan.pips pip))
      → IfOk r (ComparedHit own see found) → IfOk r (Compared plan tree inputs pip (shown.Hit found))
  hit_answer found (Err e) is h = h
  hit_answer found (Ok None) is h = hit_compared found (process_in (slice_get plan.pips pip)) None is h
  hit_answer found (Ok (Some d)) is h = hit_compared found (process_in (slice_get plan.pips pip)) (Some d) is h

-- ## A hit, a process and what is seen

module _ (own : Desc) (see : Ask → Answer) (found : FoundParts) (held weak : List ℕ) (mine : held ≡ found.entry.weak) (other : weak ≡ weak_of own) where
  abbrev stored_lines : List Answer → List (List ℕ)
  stored_lines = map digest_of_line

  abbrev seen_lines : List Ask → List (List ℕ)
  seen_lines = map (digest_asked see)

  -- what looking for the first difference says
  abbrev First : List Answer → List Ask → Option LineDifference → Type 0
  First stored asks r = MatchOption r (stored_lines stored ≡ seen_lines asks)
      (λ (x : LineDifference). FirstDiffer (stored_lines stored) (seen_lines asks) x.index x.held x.now)

  pub another_weak : (d : Difference) → held ≢ weak → d.index ≡ 0 → d.held ≡ held → d.own ≡ weak → ComparedHit own see found (Some d)
  another_weak d differ_ at first second =
      inl (λ same. differ_ (mine ∙ same ∙ sym other), is_difference d 0 found.entry.weak (weak_of own) at (first ∙ mine) (second ∙ other))

  first_of : (stored : List Answer) (asks : List Ask) (r s : Option LineDifference) → stored ≡ found.answers → asks ≡ found.paths → r ≡ s
      → First stored asks r → First found.answers found.paths s
  first_of stored asks r s es ea er h =
      subst (λ (x : List Answer). First x found.paths s) es (subst (λ (q : List Ask). First stored q s) ea (subst (First stored asks) er h))

  pub another_line : (d : Difference) (stored : List Answer) (asks : List Ask) (r : Option LineDifference) (at : LineDifference) → held ≡ weak
      → stored ≡ found.answers → asks ≡ found.paths → r ≡ Some at → First stored asks r → d.index ≡ at.index + 1 → d.held ≡ at.held → d.own ≡ at.now
      → ComparedHit own see found (Some d)
  another_line d stored asks r at same es ea er h place first second =
      inr (
        sym mine ∙ same ∙ other,
        at.index,
        place,
        subst (λ (x : List ℕ). FirstDiffer (stored_lines found.answers) (seen_lines found.paths) at.index x d.own) (sym first)
            (subst (λ (x : List ℕ). FirstDiffer (stored_lines found.answers) (seen_lines found.paths) at.index at.held x) (sym second)
            (first_of stored asks r (Some at) es ea er h)),
      )

-- a record that holds now is the board's own
pub ran_holds : (plan : PlanData) (tree : Files) (inputs : ByPip) (pip : ℕ) (facts : Facts) (o : Option ProcessDesc) → IsSome o → Sound facts → IsReadBack facts.desc
    → IfSome o (λ (process : ProcessDesc). true ≡ true ↔ HoldsNow (own_desc plan tree inputs process) (own_view plan tree inputs pip) facts)
    → IsOwnRecord plan tree inputs pip facts o
ran_holds plan tree inputs pip facts None some sound read holds = absurd cc
ran_holds plan tree inputs pip facts (Some process) some sound read holds =
    let own : Desc = own_desc plan tree inputs process in
    let see : Ask → Answer = own_view plan tree inputs pip in
    let now : HoldsNow own see facts = holds.0 refl in
    (sound, read, read_both facts.desc own now.work read, holds_agrees own see facts now)

-- so is what was found and holds now
pub hit_holds_now : (plan : PlanData) (tree : Files) (inputs : ByPip) (pip : ℕ) (found : FoundParts) (o : Option ProcessDesc) → IsSome o
    → IfSome o (λ (process : ProcessDesc). HitHolds (own_desc plan tree inputs process) (own_view plan tree inputs pip) found) → IsOwnFound plan tree inputs pip found o
hit_holds_now plan tree inputs pip found None some holds = absurd cc
hit_holds_now plan tree inputs pip found (Some process) some holds =
    (holds.found_for.read, hit_agrees (own_desc plan tree inputs process) (own_view plan tree inputs pip) found holds)
