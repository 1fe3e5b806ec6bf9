-- What calls answer on the way to a reason, from what the calls in them answer.
use Rattle.std.proofs.Common.{◌≡◌, ◌≢◌, ◌↔◌, ◌⊎◌, ℕ, ◌+◌, ◌<◌, ◌≤◌, zero, suc, true, false, Bool, List, [], ◌∷◌, ◌++◌, length, map, take, get_or, Option, Some, None, Result, Ok, Err, IfOk, IsTrue, inl, inr, refl, ap, sym, ◌∙◌, subst, arith}
use Rattle.std.specs.Prelude.{slice_get}
use Rattle.std.specs.FinMap.{get}
use Rattle.std.specs.List.{AllByRecursion}
use Rattle.std.proofs.lemmas.List.{take_all, take_more}
use Rattle.std.proofs.lemmas.Option.{same_Some}
use Rattle.sha2.specs.Sha256.{sha256}
use Rattle.bx_tree.specs.Members.{Has}
use Rattle.bx_tree.specs.Paths.{Atoms}
use Rattle.bx_tree.proofs.Lists.{all_push}
use Rattle.bx_io.specs.Holdings.{Holdings}
use Rattle.bx_io.specs.Told.{Stays}
use Rattle.pip_model_types.specs.declared.desc.Desc.{Desc}
use Rattle.observed.specs.declared.ask.Ask.{Ask}
use Rattle.observed.specs.declared.access.Answer.{Answer}
use Rattle.prints.specs.Processes.{weak_parts}
use Rattle.prints.specs.ReadWeak.{read_weak_text}
use Rattle.prints.specs.declared.strong_parts.AnswerLine.{AnswerLine}
use Rattle.prints.specs.declared.strong_parts.AnswerLine.TheVariants as answer_lines
use Rattle.prints.specs.declared.strong_parts.StrongParts.{StrongParts}
use Rattle.prints.specs.declared.weak_parts.WeakParts.{WeakParts}
use Rattle.memo_format.specs.Entries.{output_paths}
use Rattle.memo_format.specs.Selectors.{read_selectors_text}
use Rattle.memo_format.specs.StoreNames.{HoldsList, at_list}
use Rattle.memo_format.specs.declared.entry.Entry.{Entry}
use Rattle.memo_format.specs.declared.entry.OutputLine.{OutputLine}
use Rattle.memo_format.specs.declared.selector.Selector.{Selector}
use Rattle.content_store.specs.Contents.{IsContent}
use Rattle.content_store.specs.HeldEntries.{IsHeld}
use Rattle.content_store.proofs.HeldEntries.{none_and_some}
use Rattle.run_record.specs.Digests.{weak_of}
use Rattle.two_phase_meaning.specs.Contents.{HoldsPaths, HoldsStrong}
use Rattle.two_phase_meaning.specs.Usable.{AnyUsable, Usable, UsableBy, asked_text, fits}
use Rattle.two_phase.specs.Finding.{FindsOne}
use Rattle.miss_reasons.specs.Finding.{AreRead, HasContent, IsAnsweredBy, IsAskedOther, IsBeside, IsFirstOther, IsHeldBest, IsMissing, IsOther, IsOtherOf, IsTakenWhole, Told}
use Rattle.miss_reasons.specs.Reasons.{AreNoFits, AreStoredNames, IsNear, IsNoFit, IsReason}
use Rattle.miss_reasons.specs.declared.nearest.Best.{Best}
use Rattle.miss_reasons.specs.declared.reason.Near.{Near}
use Rattle.miss_reasons.specs.declared.reason.NoFit.{NoFit}
use Rattle.miss_reasons.specs.declared.reason.NoFit.TheVariants as no_fits
use Rattle.miss_reasons.specs.declared.reason.Reason.TheVariants as reasons
use Rattle.miss_reasons.proofs.Reading.{answered_no_fit, has_at, line_at, whole_usable}

-- ## Answers

pub names_given : {E : Type 0} (held : Option Holdings) (line : AnswerLine) (digest : List ℕ) (r : Result (Option (List ℕ)) E) → line ≡ answer_lines.Names digest
    → IfOk r (FindsOne held (λ S y. IsContent S digest y)) → IfOk r (Told held (λ S names. AreStoredNames S line names))
names_given held line digest (Ok None) is h = λ S told. tt
names_given held line digest (Ok (Some names)) is h = λ S told.
    let there : IsContent S digest names = h S told in
    (is ∙ ap answer_lines.Names (sym there.digest_is), record { held = there.held; digest_is = refl })
names_given held line digest (Err e) is h = tt

-- what is told of an ask, its line and its answer, which are shared
pub answered_as : (held : Option Holdings) (ask told_ask : Ask) (line : AnswerLine) (answer told_answer : Answer) (names : Option (List ℕ)) → told_ask ≡ ask → told_answer ≡ answer
    → Told held (λ S ns. AreStoredNames S line ns) names → Told held (λ S why. IsAnsweredBy S ask line answer why) (no_fits.Answered told_ask line told_answer names)
answered_as held ask told_ask line answer told_answer names ask_is answer_is h = λ S told.
    (names, ap (λ (q : Ask). no_fits.Answered q line told_answer names) ask_is ∙ ap (λ (a : Answer). no_fits.Answered ask line a names) answer_is, h S told)

pub asked_other : {E : Type 0} (held : Option Holdings) (lines : List AnswerLine) (asks : List Ask) (given : List Answer) (place : ℕ) (ask : Ask) (line : AnswerLine) (answer : Answer) (r : Result NoFit E)
    → IsFirstOther lines given place → slice_get asks place ≡ Some ask → slice_get lines place ≡ Some line → slice_get given place ≡ Some answer
    → IfOk r (Told held (λ S why. IsAnsweredBy S ask line answer why)) → IfOk r (Told held (λ S why. IsOtherOf S lines asks given why))
asked_other held lines asks given place ask line answer (Ok why) first asked line_is answer_is h = λ S told.
    let by : IsAnsweredBy S ask line answer why = h S told in
    let other : IsAskedOther lines asks given ask line answer = record {
      place = place;
      first = first;
      asked = asked;
      line_is = same_Some first.line line (sym first.stored ∙ line_is);
      answer_is = same_Some first.answer answer (sym first.given_is ∙ answer_is);
    } in
    subst (IsOtherOf S lines asks given) (sym by.1) (other, by.2)
asked_other held lines asks given place ask line answer (Err e) first asked line_is answer_is h = tt

other_by : (S : Holdings) (s : Selector) (asks : List Ask) (given : List Answer) (parts : StrongParts) (why : NoFit) → HoldsStrong S s.strong parts
    → IsOtherOf S parts.lines asks given why → IsOther S s asks given why
other_by S s asks given parts no_fits.NoPaths held h = h
other_by S s asks given parts (no_fits.Answered ask line now names) held h = (record { strong = parts; held = held; other = h.0 }, h.1)
other_by S s asks given parts no_fits.AnsweredOtherwise held h = h
other_by S s asks given parts no_fits.NoEntry held h = h
other_by S s asks given parts no_fits.OtherEntry held h = h
other_by S s asks given parts (no_fits.NoOutput output) held h = h

pub other_given : {E : Type 0} (held now : Option Holdings) (s : Selector) (asks : List Ask) (given : List Answer) (found : Option StrongParts) (parts : StrongParts) (lines : List AnswerLine) (r : Result NoFit E)
    → Stays held now → FindsOne held (λ S p. HoldsStrong S s.strong p) found → found ≡ Some parts → lines ≡ parts.lines
    → IfOk r (Told now (λ S why. IsOtherOf S lines asks given why)) → IfOk r (Told now (λ S why. IsOther S s asks given why))
other_given held now s asks given found parts lines (Ok why) stays h is lines_are other = λ S told.
    other_by S s asks given parts why (subst (λ (o : Option StrongParts). FindsOne held (λ S p. HoldsStrong S s.strong p) o) is h S (stays S told))
    (subst (λ (ls : List AnswerLine). IsOtherOf S ls asks given why) lines_are (other S told))
other_given held now s asks given found parts lines (Err e) stays h is lines_are other = tt

-- answers that give another digest
pub answered_given : {E : Type 0} (held now : Option Holdings) (d : Desc) (see : Ask → Answer) (s : Selector) (asks asked : List Ask) (given written : List Answer) (r : Result NoFit E) → Stays held now
    → ((S : Holdings) → held ≡ Some S → HoldsPaths S s.paths asks) → sha256 (asked_text d see s.paths asks) ≢ s.strong → given ≡ map see asks → asked ≡ asks → written ≡ given
    → IfOk r (Told now (λ S why. IsOther S s asked written why)) → IfOk r (Told now (λ S why. IsNoFit S d see s why))
answered_given held now d see s asks asked given written (Ok why) stays paths other given_are asked_are written_are h = λ S told.
    answered_no_fit S d see s asks given why (record { paths = paths S (stays S told); other = other }) given_are
    (subst (λ (qs : List Ask). IsOther S s qs given why) asked_are (subst (λ (ws : List Answer). IsOther S s asked ws why) written_are (h S told)))
answered_given held now d see s asks asked given written (Err e) stays paths other given_are asked_are written_are h = tt

-- ## Outputs

pub line_shared : (o : OutputLine) (path : Atoms) → path ≡ o.path → line_at path o.digest ≡ o
line_shared o path is = ap (λ (p : Atoms). line_at p o.digest) is

pub missing_here : (held : Option Holdings) (outputs : List OutputLine) (i : ℕ) (o line : OutputLine) (found : Option (List ℕ)) → i < length outputs → o ≡ get_or outputs i o → line ≡ o
    → FindsOne held (λ S y. IsContent S o.digest y) found → found ≡ None → Told held (λ S m. IsMissing S outputs m) (Some line)
missing_here held outputs i o line found l is same h none = λ S told. (
  subst (Has outputs) (sym (same ∙ is)) (has_at outputs i o l),
  λ there.
      let own : HasContent S o = subst (HasContent S) same there in
      subst (λ (f : Option (List ℕ)). FindsOne held (λ S y. IsContent S o.digest y) f) none h S told own.0 own.1,
)

pub held_more : (held now : Option Holdings) (outputs : List OutputLine) (i : ℕ) (o : OutputLine) (found : Option (List ℕ)) (bytes : List ℕ) → i < length outputs → o ≡ get_or outputs i o → Stays held now
    → FindsOne now (λ S y. IsContent S o.digest y) found → found ≡ Some bytes → ((S : Holdings) → held ≡ Some S → AllByRecursion (HasContent S) (take i outputs))
    → (S : Holdings) → now ≡ Some S → AllByRecursion (HasContent S) (take (i + 1) outputs)
held_more held now outputs i o found bytes l is stays h some so_far S told =
    let there : IsContent S o.digest bytes = subst (λ (f : Option (List ℕ)). FindsOne now (λ S y. IsContent S o.digest y) f) some h S told in
    subst (AllByRecursion (HasContent S)) (sym (take_more outputs i o l))
    (all_push (HasContent S) (take i outputs) (get_or outputs i o) (so_far S (stays S told)) (subst (HasContent S) is (bytes, there)))

pub all_held : (held : Option Holdings) (outputs : List OutputLine) (i : ℕ) → length outputs ≤ i → ((S : Holdings) → held ≡ Some S → AllByRecursion (HasContent S) (take i outputs))
    → Told held (λ S m. IsMissing S outputs m) None
all_held held outputs i l so_far = λ S told. subst (AllByRecursion (HasContent S)) (take_all i outputs l) (so_far S told)

-- ## Entries

module _ (d : Desc) (see : Ask → Answer) (s : Selector) (e : Entry) where
  pub not_for : (held : Option Holdings) (weak : List ℕ) (r : Bool) → ((S : Holdings) → held ≡ Some S → IsHeld S s.strong e) → weak ≡ weak_of d
      → (IsTrue r ↔ (e.weak ≡ weak) × ((e.paths ≡ s.paths) × IsTrue (fits d.process (output_paths e.outputs)))) → r ≡ false
      → Told held (λ S why. IsNoFit S d see s why) no_fits.OtherEntry
  not_for held weak r there weak_is whether is_no = λ S told. (
    e,
    there S told,
    λ taken. let is_yes : r ≡ true = whether.1 (taken.0 ∙ sym weak_is, (taken.1, taken.2)) in cc,
  )

  pub no_output : (held now : Option Holdings) (outputs : List OutputLine) (found : Option OutputLine) (o : OutputLine) → Stays held now → ((S : Holdings) → held ≡ Some S → IsHeld S s.strong e)
      → outputs ≡ e.outputs → Told now (λ S m. IsMissing S outputs m) found → found ≡ Some o → Told now (λ S why. IsNoFit S d see s why) (no_fits.NoOutput o)
  no_output held now outputs found o stays there outputs_are missing is = λ S told.
      let own : IsMissing S e.outputs (Some o) = subst (λ (os : List OutputLine). IsMissing S os (Some o)) outputs_are (subst (IsMissing S outputs) is (missing S told)) in (
        e,
        there S (stays S told),
        (own.0, λ bytes content. own.1 (bytes, content)),
      )

  pub other_entry : (held now : Option Holdings) (outputs : List OutputLine) (found : Option OutputLine) → Stays held now → ((S : Holdings) → held ≡ Some S → IsHeld S s.strong e)
      → ((S : Holdings) → held ≡ Some S → IsTakenWhole S d s e → ⊥) → outputs ≡ e.outputs → Told now (λ S m. IsMissing S outputs m) found → found ≡ None
      → Told now (λ S why. IsNoFit S d see s why) no_fits.OtherEntry
  other_entry held now outputs found stays there not_whole outputs_are missing is = λ S told.
      let own : IsMissing S e.outputs None = subst (λ (os : List OutputLine). IsMissing S os None) outputs_are (subst (IsMissing S outputs) is (missing S told)) in (
        e,
        there S (stays S told),
        λ taken. not_whole S (stays S told) (taken, own),
      )

-- nothing that is held under the digest of a path set that is asked now may be taken with all its outputs
pub not_whole : (held : Option Holdings) (d : Desc) (see : Ask → Answer) (s : Selector) (asks : List Ask) → ((S : Holdings) → held ≡ Some S → UsableBy S d see s → ⊥)
    → ((S : Holdings) → held ≡ Some S → HoldsPaths S s.paths asks) → sha256 (asked_text d see s.paths asks) ≡ s.strong
    → (S : Holdings) → held ≡ Some S → (e : Entry) → IsHeld S s.strong e → IsTakenWhole S d s e → ⊥
not_whole held d see s asks unusable paths asked S told e there whole = unusable S told (whole_usable S d see s asks e (paths S told) asked there whole)

-- ## Selectors

fits_push : (S : Holdings) (d : Desc) (see : Ask → Answer) (list : List Selector) (why : List NoFit) (s : Selector) (one : NoFit) → AreNoFits S d see list why
    → IsNoFit S d see s one → AreNoFits S d see (list ++ s ∷ []) (why ++ one ∷ [])
fits_push S d see [] [] s one h k = (k, tt)
fits_push S d see [] (w ∷ ws) s one h k = absurd h
fits_push S d see (x ∷ xs) [] s one h k = absurd h
fits_push S d see (x ∷ xs) (w ∷ ws) s one h k = (h.0, fits_push S d see xs ws s one h.1 k)

pub fits_none : (held : Option Holdings) (d : Desc) (see : Ask → Answer) (list : List Selector) (why : List NoFit) → why ≡ []
    → (S : Holdings) → held ≡ Some S → AreNoFits S d see (take 0 list) why
fits_none held d see list why none S told = subst (AreNoFits S d see []) (sym none) tt

pub fits_more : (held now : Option Holdings) (d : Desc) (see view : Ask → Answer) (list : List Selector) (i : ℕ) (s : Selector) (one : NoFit) (why new : List NoFit) → i < length list → s ≡ get_or list i s
    → Stays held now → view ≡ see → Told now (λ S w. IsNoFit S d view s w) one → new ≡ why ++ one ∷ []
    → ((S : Holdings) → held ≡ Some S → AreNoFits S d see (take i list) why) → (S : Holdings) → now ≡ Some S → AreNoFits S d see (take (i + 1) list) new
fits_more held now d see view list i s one why new l is stays seen own more so_far S told =
    let mine : IsNoFit S d see s one = subst (λ (v : Ask → Answer). IsNoFit S d v s one) seen (own S told) in
    subst (λ (ss : List Selector). AreNoFits S d see ss new) (sym (take_more list i s l))
    (subst (AreNoFits S d see (take i list ++ get_or list i s ∷ [])) (sym more)
    (subst (λ (t : Selector). AreNoFits S d see (take i list ++ t ∷ []) (why ++ one ∷ [])) is
    (fits_push S d see (take i list) why s one (so_far S (stays S told)) mine)))

pub fits_all : (held : Option Holdings) (d : Desc) (see : Ask → Answer) (list : List Selector) (i : ℕ) (why all : List NoFit) → length list ≤ i → all ≡ why
    → ((S : Holdings) → held ≡ Some S → AreNoFits S d see (take i list) why) → Told held (λ S w. AreNoFits S d see list w) all
fits_all held d see list i why all l same so_far = λ S told.
    subst (AreNoFits S d see list) (sym same) (subst (λ (ss : List Selector). AreNoFits S d see ss why) (take_all i list l) (so_far S told))

any_at : (S : Holdings) (d : Desc) (see : Ask → Answer) (list : List Selector) (i : ℕ) (s : Selector) → i < length list → s ≡ get_or list i s → UsableBy S d see s → AnyUsable S d see list
any_at S d see [] i s l is u = absurd (omega (arith, l))
any_at S d see (x ∷ xs) zero s l is u = inl (subst (UsableBy S d see) is u)
any_at S d see (x ∷ xs) (suc i) s l is u = inr (any_at S d see xs i s (omega (arith, l)) is u)

pub none_usable : (held now : Option Holdings) (d : Desc) (see view : Ask → Answer) (list : List Selector) (i : ℕ) (s : Selector) → i < length list → s ≡ get_or list i s → Stays held now → view ≡ see
    → ((S : Holdings) → held ≡ Some S → AnyUsable S d see list → ⊥) → (S : Holdings) → now ≡ Some S → UsableBy S d view s → ⊥
none_usable held now d see view list i s l is stays seen none S told u =
    none S (stays S told) (any_at S d see list i s l is (subst (λ (v : Ask → Answer). UsableBy S d v s) seen u))

-- ## A process

module _ (d : Desc) (see : Ask → Answer) (weak text : List ℕ) (read : Option (List Selector)) (weak_is : weak ≡ weak_of d) (read_is : read_selectors_text text ≡ read) where
  list_held : (S : Holdings) (list : List Selector) → get S (at_list weak) ≡ Some text → read ≡ Some list → HoldsList S (weak_of d) list
  list_held S list there some = (text, ap (λ w. get S (at_list w)) (sym weak_is) ∙ there, read_is ∙ some)

  pub none_of_list : (held : Option Holdings) (list listed : List Selector) → ((S : Holdings) → held ≡ Some S → get S (at_list weak) ≡ Some text) → read ≡ Some list → listed ≡ list
      → ((S : Holdings) → held ≡ Some S → Usable S d see → ⊥) → (S : Holdings) → held ≡ Some S → AnyUsable S d see listed → ⊥
  none_of_list held list listed there some same none S told any =
      none S told (record { list = list; held = list_held S list (there S told) some; any = subst (AnyUsable S d see) same any })

  pub none_fits : (held now : Option Holdings) (list listed : List Selector) (why : List NoFit) → Stays held now → ((S : Holdings) → held ≡ Some S → get S (at_list weak) ≡ Some text)
      → read ≡ Some list → listed ≡ list → Told now (λ S w. AreNoFits S d see listed w) why → Told now (λ S r. IsReason S d see r) (reasons.NoneFits list why)
  none_fits held now list listed why stays there some same fit = λ S told.
      (list_held S list (there S (stays S told)) some, subst (λ (ss : List Selector). AreNoFits S d see ss why) same (fit S told))

  pub bad_list : (held : Option Holdings) → ((S : Holdings) → held ≡ Some S → get S (at_list weak) ≡ Some text) → read ≡ None → Told held (λ S r. IsReason S d see r) (reasons.BadList weak)
  bad_list held there none = λ S told.
      let own : get S (at_list (weak_of d)) ≡ Some text = ap (λ w. get S (at_list w)) (sym weak_is) ∙ there S told in (
        weak_is,
        (text, own),
        λ list h.
            let same : text ≡ h.0 = same_Some text h.0 (sym own ∙ h.1) in
            none_and_some (read_selectors_text text) list (read_is ∙ none) (ap read_selectors_text same ∙ h.2),
      )

pub no_list : (held now : Option Holdings) (d : Desc) (see : Ask → Answer) (near : Option Near) → Stays held now
    → ((S : Holdings) → held ≡ Some S → get S (at_list (weak_of d)) ≡ None) → Told now (λ S n. IsNear S d n) near → Told now (λ S r. IsReason S d see r) (reasons.NoList near)
no_list held now d see near stays none is_near = λ S told. (none S (stays S told), is_near S told)

-- ## Descriptions

pub are_read : {E : Type 0} (stored own : List ℕ) (parts : WeakParts) (r : Result (Option Near) E) → read_weak_text stored ≡ Some parts → IfOk r (IsBeside parts own) → IfOk r (AreRead stored own)
are_read stored own parts (Ok None) is h = tt
are_read stored own parts (Ok (Some near)) is h = (is ∙ ap Some (sym h.0), h.1)
are_read stored own parts (Err e) is h = tt

pub best_held : (held now : Option Holdings) (digest : List ℕ) (found : Option (List ℕ)) (text : List ℕ) (best : Option Best) (one more : Best) → Stays held now → FindsOne now (λ S y. IsContent S digest y) found
    → found ≡ Some text → one.text ≡ text → (more ≡ one) ⊎ (best ≡ Some more) → Told held (λ S b. IsHeldBest S b) best → Told now (λ S b. IsHeldBest S b) (Some more)
best_held held now digest found text best one more stays h some is (inl new) before = λ S told.
    let there : IsContent S digest text = subst (λ (f : Option (List ℕ)). FindsOne now (λ S y. IsContent S digest y) f) some h S told in
    (digest, subst (IsContent S digest) (sym (ap (λ (b : Best). b.text) new ∙ is)) there)
best_held held now digest found text best one more stays h some is (inr old) before = λ S told. subst (IsHeldBest S) old (before S (stays S told))

pub best_stays : (held now : Option Holdings) (best : Option Best) → Stays held now → Told held (λ S b. IsHeldBest S b) best → Told now (λ S b. IsHeldBest S b) best
best_stays held now best stays h = λ S told. h S (stays S told)

pub near_given : (held : Option Holdings) (d : Desc) (best : Best) (found : Option Best) (stored own : List ℕ) (near : Option Near) → Told held (λ S b. IsHeldBest S b) found → found ≡ Some best
    → stored ≡ best.text → read_weak_text own ≡ Some (weak_parts d) → AreRead stored own near → Told held (λ S n. IsNear S d n) near
near_given held d best found stored own None h is text_is own_is read = λ S told. tt
near_given held d best found stored own (Some near) h is text_is own_is read = λ S told.
    let there : IsHeldBest S (Some best) = subst (IsHeldBest S) is (h S told) in (
      (there.0, (best.text, there.1, ap read_weak_text (sym text_is) ∙ read.0)),
      same_Some near.own (weak_parts d) (sym read.1 ∙ own_is),
    )
