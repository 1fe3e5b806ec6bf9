-- In a second build nothing is compared that was not compared in the first.
use Rattle.std.proofs.Common.{◌≡◌, ◌⊎◌, ℕ, zero, suc, ◌+◌, ◌≤◌, Bool, true, false, not, cond, List, [], ◌∷◌, ◌++◌, filter, length, map, take, Option, Some, None, refl, sym, ap, ◌∙◌, subst, inl, inr, arith, append_assoc, append-nil, length-append}
use Rattle.std.specs.Prelude.{IsSome, slice_get}
use Rattle.std.specs.FinMap.{get}
use Rattle.std.specs.List.{AllByRecursion, list_all}
use Rattle.std.proofs.lemmas.Option.{same_Some}
use Rattle.sha2.specs.Sha256.{sha256}
use Rattle.bx_tree.specs.Members.{Has}
use Rattle.bx_tree.specs.Trees.{Files}
use Rattle.bx_tree.proofs.Lists.{all_front}
use Rattle.bx_io.specs.Holdings.{Change, Holdings, IsPrefix, StoreTold, changed, held_in, holdings_after}
use Rattle.bx_io.proofs.Changes.{told_after}
use Rattle.pip_model_types.specs.Makers.{IsPipList}
use Rattle.pip_model_types.specs.declared.desc.Desc.{Desc}
use Rattle.pip_model_types.specs.declared.pip.Pip.{Pip}
use Rattle.pip_model_types.specs.declared.pip.PipKind.{PipKind}
use Rattle.pip_model_types.specs.declared.pip.PipKind.TheVariants.{Process, Copy, Write, Seal}
use Rattle.pip_model_types.specs.declared.pip.ProcessDesc.{ProcessDesc}
use Rattle.observed.specs.Texts.{paths_text, read_paths_text}
use Rattle.observed.specs.declared.ask.Ask.{Ask}
use Rattle.observed.specs.declared.access.Answer.{Answer}
use Rattle.graph_check.specs.Rules.{KeepsRules}
use Rattle.prints.specs.Processes.{weak_parts}
use Rattle.prints.specs.Weak.{weak_text}
use Rattle.memo_format.specs.Entries.{entry_text}
use Rattle.memo_format.specs.Selectors.{IsSelector, read_selectors_text, selectors_text}
use Rattle.memo_format.specs.StoreNames.{HoldsBlob, HoldsList, at_blob, at_entry, at_list}
use Rattle.memo_format.specs.declared.selector.Selector.{Selector}
use Rattle.memo_format.specs.declared.selector.TheConstants.{MAX_SELECTORS}
use Rattle.memo_format.proofs.FormTexts.{selectors_again, selectors_sound}
use Rattle.content_store.specs.Contents.{blob_put}
use Rattle.run_record.specs.Digests.{weak_of}
use Rattle.run_record.specs.Facts.{Facts}
use Rattle.bx_digest.proofs.HashesAreDigests.{is_digest}
use Rattle.two_phase.specs.Putting.{LeavesHonest, PutsUpTo}
use Rattle.two_phase.proofs.Applied.{Made, made_of}
use Rattle.two_phase_meaning.specs.Compared as met
use Rattle.two_phase_meaning.specs.Compared.{ComparedInRun, IsComparedPathSet, IsSelected, own_paths}
use Rattle.two_phase_meaning.specs.Contents.{HoldsPaths}
use Rattle.two_phase_meaning.specs.Honest.{Honest}
use Rattle.two_phase_meaning.specs.Saving.{Spelled, answers_text, blobs_of, entry_put, list_at, list_put, or_none, paths_digest, puts_of, record_entry, record_selector, same_selector, selectors_in, with_first}
use Rattle.two_phase_meaning.proofs.Added.{contents_added}
use Rattle.two_phase_meaning.proofs.Again.{first_are}
use Rattle.two_phase_meaning.proofs.Digests.{list_no_blob, list_no_entry, same_list_name}
use Rattle.two_phase_meaning.proofs.Puts.{put_or_old}
use Rattle.violations.specs.Verdicts.{is_success}
use Rattle.pip_view.proofs.TakenDirs.{process_is}
use Rattle.pip_view_inputs.specs.Plain.{kind_process, process_in}
use Rattle.one_thread.specs.OneThread.{Result, inputs_are_good, on_from, one_thread, result_of, run_count, verdicts_of}
use Rattle.sched_board_slots.specs.Slots.{slot_at}
use Rattle.sched_board_slots.specs.declared.held.Held.{Held}
use Rattle.sched_board_slots.specs.declared.held.Held.TheVariants as slots
use Rattle.retire.specs.Accepting.{IsAccepted, without_run}
use Rattle.retire.specs.Builds.{IsFair, LeavesFair, LeavesUsable}
use Rattle.retire.specs.Counts.{CountsOver, CountsWithin}
use Rattle.retire_compared.specs.Compared.{Compared, compared_at_pip, compared_from, desc_after, view_after}
use Rattle.retire.specs.Runs.{IsOfSuccess, NoneReserved, RunsAs, results_before}
use Rattle.retire.specs.Saving.{PutsEach}
use Rattle.retire.proofs.AllHits.{all_hit}
use Rattle.retire.proofs.Nothing.{none_is_accepted}
use Rattle.retire.proofs.Putting.{each_told}
use Rattle.retire.proofs.Records.{all_successes}
use Rattle.retire.proofs.SoFar.{run_met, success_met, taken}
use Rattle.retire.proofs.Twins.{one_process}
use Rattle.retire_laws.specs.SecondBuild.{AllReadBack, HoldNoRun, NamesHeldPaths}

-- ## Lists of selectors

has_taken : {X : Type 0} (n : ℕ) (xs : List X) (x : X) → Has (take n xs) x → Has xs x
has_taken zero xs x h = absurd h
has_taken (suc n) [] x h = absurd h
has_taken (suc n) (y ∷ ys) x h = elim h [ inl here ↦ inl here | inr later ↦ inr (has_taken n ys x later) ]

kept_has : {X : Type 0} (y : X) (rest all : List X) (x : X) → (Has rest x → Has all x) → (b : Bool) → Has (cond b (y ∷ rest) rest) x → Has (y ∷ all) x
kept_has y rest all x more true h = elim h [ inl here ↦ inl here | inr later ↦ inr (more later) ]
kept_has y rest all x more false h = inr (more h)

has_kept : {X : Type 0} (p : X → Bool) (xs : List X) (x : X) → Has (filter p xs) x → Has xs x
has_kept p [] x h = absurd h
has_kept p (y ∷ ys) x h = kept_has y (filter p ys) ys x (λ k. has_kept p ys x k) (p y) h

-- a selector of the next list is the new one, or was in the list
next_has : (s : Selector) (old : List Selector) (t : Selector) → Has (with_first s old) t → (s ≡ t) ⊎ Has old t
next_has s old t h = elim (has_taken MAX_SELECTORS (s ∷ filter (λ other. not (same_selector s other)) old) t h) [
  | inl new ↦ inl new
  | inr kept ↦ inr (has_kept (λ other. not (same_selector s other)) old t kept)
]

held_selectors : (o : Option (List Selector)) → ((l : List Selector) → o ≡ Some l → AllByRecursion IsSelector l) → AllByRecursion IsSelector (or_none o)
held_selectors None are = tt
held_selectors (Some l) are = are l refl

list_selectors : (o : Option (List ℕ)) → AllByRecursion IsSelector (selectors_in o)
list_selectors None = tt
list_selectors (Some text) = held_selectors (read_selectors_text text) (λ l e. (selectors_sound text l e).0.each)

-- a selector that is held is in a list that is held
held_list : (S : Holdings) (weak : List ℕ) (s : Selector) → Has (list_at S weak) s → (list : List Selector) × HoldsList S weak list × Has list s
held_list S weak s h = by_text (get S (at_list weak)) refl h
  where
    by_list : (text : List ℕ) → get S (at_list weak) ≡ Some text → (o : Option (List Selector)) → read_selectors_text text ≡ o → Has (or_none o) s
        → (list : List Selector) × HoldsList S weak list × Has list s
    by_list text at None read k = absurd k
    by_list text at (Some list) read k = (list, (text, at, read), k)

    by_text : (o : Option (List ℕ)) → get S (at_list weak) ≡ o → Has (selectors_in o) s → (list : List Selector) × HoldsList S weak list × Has list s
    by_text None at k = absurd k
    by_text (Some text) at k = by_list text at (read_selectors_text text) refl k

-- ## What a save changes of lists

abbrev IsOfSave : Facts → List Selector → Change → Type 0
IsOfSave f list c = ((x : List ℕ) × (c ≡ blob_put x)) ⊎ ((c ≡ entry_put f) ⊎ (c ≡ list_put f list))

save_each : (f : Facts) (list : List Selector) (xs : List (List ℕ))
    → AllByRecursion (IsOfSave f list) (map blob_put xs ++ (entry_put f ∷ list_put f list ∷ []))
save_each f list [] = (inr (inl refl), (inr (inr refl), tt))
save_each f list (x ∷ xs) = (inl (x, refl), save_each f list xs)

first_each : (f : Facts) (list : List Selector) (made : List Change) → IsPrefix made (puts_of f list) → AllByRecursion (IsOfSave f list) made
first_each f list made p =
    all_front (IsOfSave f list) made p.rest (subst (AllByRecursion (IsOfSave f list)) (sym p.joined) (save_each f list (blobs_of f)))

one_change : (f : Facts) (list : List Selector) (c : Change) → IsOfSave f list c → (S : Holdings) (weak bytes : List ℕ)
    → get (changed S c) (at_list weak) ≡ Some bytes
    → (get S (at_list weak) ≡ Some bytes) ⊎ ((at_list weak ≡ at_list (weak_of f.desc)) × (selectors_text list ≡ bytes))
one_change f list c of' S weak bytes h = elim of' [
  | inl blob ↦
      elim (put_or_old S (at_blob (sha256 blob.0)) blob.0 (at_list weak) bytes (subst (λ (d : Change). get (changed S d) (at_list weak) ≡ Some bytes) blob.1 h)) [
        | inl here ↦ absurd (list_no_blob weak (sha256 blob.0) here.0)
        | inr old ↦ inl old
      ]
  | inr more ↦ elim more [
    | inl entry ↦
        elim (put_or_old S (at_entry (sha256 (answers_text f))) (entry_text (record_entry f)) (at_list weak) bytes
        (subst (λ (d : Change). get (changed S d) (at_list weak) ≡ Some bytes) entry h)) [
          | inl here ↦ absurd (list_no_entry weak (sha256 (answers_text f)) here.0)
          | inr old ↦ inl old
        ]
    | inr last ↦
        elim (put_or_old S (at_list (weak_of f.desc)) (selectors_text list) (at_list weak) bytes
        (subst (λ (d : Change). get (changed S d) (at_list weak) ≡ Some bytes) last h)) [
          | inl here ↦ inr here
          | inr old ↦ inl old
        ]
  ]
]

list_after : (f : Facts) (list : List Selector) (cs : List Change) → AllByRecursion (IsOfSave f list) cs → (S : Holdings) (weak bytes : List ℕ)
    → get (holdings_after S cs) (at_list weak) ≡ Some bytes
    → (get S (at_list weak) ≡ Some bytes) ⊎ ((at_list weak ≡ at_list (weak_of f.desc)) × (selectors_text list ≡ bytes))
list_after f list [] each S weak bytes h = inl h
list_after f list (c ∷ cs) each S weak bytes h = elim (list_after f list cs each.1 (changed S c) weak bytes h) [
  | inl before ↦ one_change f list c each.0 S weak bytes before
  | inr new ↦ inr new
]

-- ## Places in lists

get_next : {X : Type 0} (xs ys : List X) (y : X) (i : ℕ) → length xs ≡ i → slice_get (xs ++ y ∷ ys) i ≡ Some y
get_next [] ys y zero e = refl
get_next [] ys y (suc i) e = absurd (omega (arith, e))
get_next (x ∷ xs) ys y zero e = absurd (omega (arith, e))
get_next (x ∷ xs) ys y (suc i) e = get_next xs ys y i (omega (arith, e))

one_longer : {X : Type 0} (xs : List X) (x : X) (i : ℕ) → length xs ≡ i → length (xs ++ x ∷ []) ≡ i + 1
one_longer xs x i e = length-append xs (x ∷ []) ∙ ap (λ n. n + 1) e

-- ## After the first build

module _ (pips : List Pip) (tree : Files) (budget : ℕ) (base : Holdings) (list : IsPipList pips) (keeps : KeepsRules pips tree) (free : NoneReserved tree)
    (read : AllReadBack pips tree budget) (named : NamesHeldPaths base) (fair : IsFair pips tree budget base) where
  abbrev M : List ℕ → Type 0
  M = Compared pips tree budget base

  -- the selector was in the list of the process, or it is that of a record of a process of this build
  abbrev IsKnown : Desc → Selector → Type 0
  IsKnown d s =
      ((old : List Selector) × HoldsList base (weak_of d) old × Has old s)
      ⊎ ((f : Facts) × IsOfSuccess pips tree budget f × Spelled f × (weak_of f.desc ≡ weak_of d) × (s.paths ≡ paths_digest f))

  -- what is held now
  abbrev IsGoneOn : Holdings → Type 0
  IsGoneOn now =
      ((x : List ℕ) → HoldsBlob now x → M x)
      × ((d : Desc) (selectors : List Selector) → HoldsList now (weak_of d) selectors → (s : Selector) → Has selectors s → IsKnown d s)

  begins : IsGoneOn base
  begins = (λ x h. inl h, λ d selectors h s m. inl (selectors, h, m))

  -- ## One record

  module _ (k : Holdings) (so_far : IsGoneOn k) (f : Facts) (success : IsOfSuccess pips tree budget f)
      (told now : StoreTold) (was : held_in told ≡ Some k) (last : Holdings) (now_is : held_in now ≡ Some last) (p : PutsUpTo told now f) where
    abbrev next_list : List Selector
    next_list = with_first (record_selector f) p.old

    done : Made k told p.first now
    done = made_of p.first k last told now was now_is p.applies

    tells : IsSome (held_in now)
    tells = subst (λ (o : Option Holdings). IsSome o) (sym now_is) refl

    old_is : p.old ≡ list_at k (weak_of f.desc)
    old_is = p.old_is tells k was

    next_held : (x : List ℕ) → HoldsBlob (holdings_after k p.first) x → M x
    next_held x h = elim (contents_added k f next_list p.first p.is_first x h) [
      | inl old ↦ so_far.0 x old
      | inr new ↦ success_met pips tree budget base f success x new
    ]

    reads_back : Spelled f → read_selectors_text (selectors_text next_list) ≡ Some next_list
    reads_back spelled =
        selectors_again next_list (first_are (record_selector f) p.old (is_digest (paths_text f.paths), is_digest (answers_text f))
        (subst (AllByRecursion IsSelector) (sym old_is) (list_selectors (get k (at_list (weak_of f.desc))))))

    new_known : Spelled f → (d : Desc) (selectors : List Selector) (bytes : List ℕ) → read_selectors_text bytes ≡ Some selectors
        → at_list (weak_of d) ≡ at_list (weak_of f.desc) → selectors_text next_list ≡ bytes → (s : Selector) → Has selectors s → IsKnown d s
    new_known spelled d selectors bytes is name text s m =
        let weak : weak_of d ≡ weak_of f.desc =
        same_list_name (weak_of d) (weak_of f.desc) (is_digest (weak_text (weak_parts d))) (is_digest (weak_text (weak_parts f.desc))) name in
        let same : selectors ≡ next_list =
        same_Some selectors next_list (sym is ∙ ap read_selectors_text (sym text) ∙ reads_back spelled) in
        elim (next_has (record_selector f) p.old s (subst (λ (l : List Selector). Has l s) same m)) [
          | inl new ↦ inr (f, success, spelled, sym weak, ap (λ (t : Selector). t.paths) (sym new))
          | inr old ↦
              let there = held_list k (weak_of f.desc) s (subst (λ (l : List Selector). Has l s) old_is old) in
              so_far.1 d there.0 (subst (λ w. HoldsList k w there.0) (sym weak) there.1) s there.2
        ]

    next_lists : (d : Desc) (selectors : List Selector) → HoldsList (holdings_after k p.first) (weak_of d) selectors → (s : Selector) → Has selectors s
        → IsKnown d s
    next_lists d selectors h s m = elim p.spelled [
      | inl none ↦
          so_far.1 d selectors (subst (λ (cs : List Change). HoldsList (holdings_after k cs) (weak_of d) selectors) none h) s m
      | inr spelled ↦
          elim (list_after f next_list p.first (first_each f next_list p.first p.is_first) k (weak_of d) h.0 h.1) [
            | inl old ↦ so_far.1 d selectors (h.0, old, h.2) s m
            | inr new ↦ new_known spelled d selectors h.0 h.2 new.0 new.1 s m
          ]
    ]

    goes_on : IsGoneOn (holdings_after k done.made)
    goes_on = subst IsGoneOn (sym done.same) (next_held, next_lists)

  -- ## All records

  all_gone_on : (fs : List Facts) → AllByRecursion (IsOfSuccess pips tree budget) fs → (k : Holdings) → IsGoneOn k → (told now : StoreTold)
      → held_in told ≡ Some k → (last : Holdings) → held_in now ≡ Some last → PutsEach told fs now → IsGoneOn last
  all_gone_on [] all k so_far told now was last now_is same =
      subst IsGoneOn (same_Some k last (sym was ∙ same.held last now_is)) so_far
  all_gone_on (f ∷ fs) all k so_far told now was last now_is puts =
      let there : (T : Holdings) × (held_in puts.0 ≡ Some T) = each_told fs puts.0 now last now_is puts.2 in
      let made : Made k told puts.1.first puts.0 = done k so_far f all.0 told puts.0 was there.0 there.1 puts.1 in
      all_gone_on fs all.1 (holdings_after k made.made) (goes_on k so_far f all.0 told puts.0 was there.0 there.1 puts.1) puts.0 now
      (told_after told puts.0 made.made k there.0 was there.1 made.makes) last now_is puts.2

  first_successes : (n : ℕ) (fs : List Facts) → AllByRecursion (IsOfSuccess pips tree budget) fs → AllByRecursion (IsOfSuccess pips tree budget) (take n fs)
  first_successes zero fs h = tt
  first_successes (suc n) [] h = tt
  first_successes (suc n) (f ∷ fs) h = (h.0, first_successes n fs h.1)

  -- ## What is compared in the second build

  module _ (kept : Holdings) (before now : StoreTold) (was : held_in before ≡ Some base) (now_is : held_in now ≡ Some kept)
      (left : LeavesFair pips tree budget base before now) where
    now_known : IsGoneOn kept
    now_known =
        let fs : List Facts = left.puts.0 in
        let puts = left.puts.3 in
        all_gone_on (take puts.number fs) (first_successes puts.number fs (all_successes pips tree budget 0 left.puts.1 fs left.puts.2))
        base begins before now was kept now_is puts.each

    -- what runs as one pip is one process on one view
    one_run : (i j : ℕ) (d e : Desc) (see view : Ask → Answer) → i ≡ j → RunsAs pips tree budget i d see → RunsAs pips tree budget j e view → (d ≡ e) × (see ≡ view)
    one_run i j d e see view same a b' =
        let b : RunsAs pips tree budget i e view = subst (λ k. RunsAs pips tree budget k e view) (sym same) b' in
        let s = process_is (slice_get pips i) a.process a.is_process in
        let t = process_is (slice_get pips i) b.process b.is_process in
        let pip : s.0 ≡ t.0 = same_Some s.0 t.0 (sym s.1 ∙ t.1) in
        let kinds : Process a.process ≡ Process b.process = sym s.2 ∙ ap (λ (p : Pip). p.kind) pip ∙ t.2 in
        let one : a.process ≡ b.process = cc in (
          sym a.desc_is ∙ ap (desc_after pips tree budget (results_before pips tree budget i)) one ∙ b.desc_is,
          sym a.view_is ∙ ap (view_after pips tree (results_before pips tree budget i) i) one ∙ b.view_is,
        )

    module _ (i : ℕ) (d : Desc) (see : Ask → Answer) (runs : RunsAs pips tree budget i d see) where
      -- the path set of a selector that was in the list
      old_set : (digest : List ℕ) (asks : List Ask) (s : Selector) (old : List Selector) → HoldsList base (weak_of d) old → Has old s → s.paths ≡ digest
          → HoldsPaths kept digest asks → IsComparedPathSet base d see digest asks
      old_set digest asks s old in_list listed is held =
          let text = named d old in_list s listed in
          let same : text.0 ≡ held.0 =
          fair.apart text.0 held.0 (inl text.1.held) (now_known.0 held.0 held.1.held) (text.1.digest_is ∙ is ∙ sym held.1.digest_is) in
          inr (
            (old, in_list, (s, listed, is)),
            (text.0, record { held = text.1.held; digest_is = text.1.digest_is ∙ is }, ap read_paths_text same ∙ held.2),
          )

      -- the path set of a record
      new_set : (digest : List ℕ) (asks : List Ask) (f : Facts) (success : IsOfSuccess pips tree budget f) → Spelled f → weak_of f.desc ≡ weak_of d
          → digest ≡ paths_digest f → HoldsPaths kept digest asks → IsComparedPathSet base d see digest asks
      new_set digest asks f success spelled weak is held =
          let pip : success.pip ≡ i =
          one_process pips tree list keeps free budget base success.pip i f.desc d success.see see fair.apart success.runs runs spelled.weak (read i d see runs) weak in
          let one = one_run success.pip i f.desc d success.see see pip success.runs runs in
          let own : own_paths d see ≡ f.paths =
          ap (λ (v : Ask → Answer). own_paths d v) (sym one.1) ∙ ap (λ (x : Desc). own_paths x success.see) (sym one.0) ∙ success.run.run.paths in
          let text : paths_text f.paths ≡ held.0 =
          fair.apart (paths_text f.paths) held.0 (success_met pips tree budget base f success (paths_text f.paths) (inr (inl refl)))
          (now_known.0 held.0 held.1.held) (sym is ∙ sym held.1.digest_is) in
          let asked : f.paths ≡ asks = same_Some f.paths asks (sym spelled.paths ∙ ap read_paths_text text ∙ held.2) in
          inl (own ∙ asked, ap (λ (qs : List Ask). sha256 (paths_text qs)) (sym asked) ∙ sym is)

      set_before : (digest : List ℕ) (asks : List Ask) → IsComparedPathSet kept d see digest asks → IsComparedPathSet base d see digest asks
      set_before digest asks c = elim c [
        | inl own ↦ inl own
        | inr held ↦
            let sel : IsSelected kept d digest = held.0 in
            elim (now_known.1 d sel.0 sel.1 sel.2.0 sel.2.1) [
              | inl old ↦ old_set digest asks sel.2.0 old.0 old.1 old.2 sel.2.2 held.1
              | inr new ↦ new_set digest asks new.0 new.1 new.2 new.3 (sym sel.2.2 ∙ new.4) held.1
            ]
      ]

      run_within : (x : List ℕ) → ComparedInRun kept d see x → M x
      run_within x (met.stored h) = now_known.0 x h
      run_within x (met.weak e) = run_met pips tree budget base x i d see runs (met.weak e)
      run_within x (met.declared h) = run_met pips tree budget base x i d see runs (met.declared h)
      run_within x (met.own_set e) = run_met pips tree budget base x i d see runs (met.own_set e)
      run_within x (met.strong digest asks c e) = run_met pips tree budget base x i d see runs (met.strong digest asks (set_before digest asks c) e)
      run_within x (met.given digest asks c h) = run_met pips tree budget base x i d see runs (met.given digest asks (set_before digest asks c) h)
      run_within x (met.made files e h) = run_met pips tree budget base x i d see runs (met.made files e h)

    -- pip i, which is this process, runs after these results
    runs_here : (d : ProcessDesc) (left' front : List Pip) (pip : Pip) (results : List Result) (i : ℕ) → pip.kind ≡ Process d → pips ≡ front ++ pip ∷ left'
        → length front ≡ i → length results ≡ i → on_from pips tree budget results i (pip ∷ left') ≡ one_thread pips tree budget
        → inputs_are_good pips (Process d) results ≡ true
        → RunsAs pips tree budget i (desc_after pips tree budget results d) (view_after pips tree results i d)
    runs_here d left' front pip results i kind is long count all good =
        let same : results_before pips tree budget i ≡ results = ap (take i) (sym all) ∙ taken pips tree budget (pip ∷ left') results i count in
        let there : slice_get pips i ≡ Some pip = ap (λ (ps : List Pip). slice_get ps i) is ∙ get_next front left' pip i long in
        record {
          process = d;
          is_process = ap process_in there ∙ ap kind_process kind;
          is_run = ap (λ (rs : List Result). inputs_are_good pips (Process d) rs) same ∙ good;
          desc_is = ap (λ (rs : List Result). desc_after pips tree budget rs d) same;
          view_is = ap (λ (rs : List Result). view_after pips tree rs i d) same;
        }

    module _ (x : List ℕ) where
      from_within : (rest : List Pip) (results : List Result) (i : ℕ) (front : List Pip) → pips ≡ front ++ rest → length front ≡ i → length results ≡ i
          → on_from pips tree budget results i rest ≡ one_thread pips tree budget → compared_from pips tree budget kept results i rest x → M x
      from_within [] results i front is long count all h = absurd h
      from_within (pip ∷ rest) results i front is long count all h =
          let next = result_of pips tree budget results i pip.kind in
          elim h [
            | inl here ↦ by_kind pip.kind refl here
            | inr later ↦
                from_within rest (results ++ next ∷ []) (i + 1) (front ++ pip ∷ []) (is ∙ sym (append_assoc front (pip ∷ []) rest)) (one_longer front pip i long)
                (one_longer results next i count) all later
          ]
        where
          by_kind : (kind : PipKind) → pip.kind ≡ kind → compared_at_pip pips tree budget kept results i kind x → M x
          by_kind (Process d) kind here =
              run_within i (desc_after pips tree budget results d) (view_after pips tree results i d)
              (runs_here d rest front pip results i kind is long count all here.0) x here.1
          by_kind (Copy d) kind here = absurd here.1
          by_kind (Write d) kind here = absurd here.1
          by_kind (Seal d) kind here = absurd here.1

      within : Compared pips tree budget kept x → M x
      within h = elim h [
        | inl held ↦ now_known.0 x held
        | inr from ↦ from_within pips [] 0 [] refl refl refl refl from
      ]

    honest_now : Honest kept
    honest_now =
        let h : LeavesHonest base before now = left.honest in
        let same : kept ≡ holdings_after base h.made =
        same_Some kept (holdings_after base h.made) (sym now_is ∙ told_after before now h.made base kept was now_is h.makes) in
        subst Honest (sym same) (h.along h.made (record { rest = []; joined = append-nil h.made }))

  pub stays_fair : (kept : Holdings) (before now : StoreTold) → held_in before ≡ Some base → held_in now ≡ Some kept
      → LeavesFair pips tree budget base before now → IsFair pips tree budget kept
  stays_fair kept before now was now_is left = record {
    honest = honest_now kept before now was now_is left;
    apart = λ x y h k e. fair.apart x y (within kept before now was now_is left x h) (within kept before now was now_is left y k) e;
  }

-- a build of a store with something usable for each process that succeeds counts no late run, where all succeed and no fault is counted
pub no_late : (pips : List Pip) (tree : Files) (budget : ℕ) (kept : Holdings) (now : StoreTold) (hits late : ℕ) → held_in now ≡ Some kept
    → LeavesUsable pips tree budget now → list_all is_success (verdicts_of (one_thread pips tree budget)) ≡ true
    → CountsWithin pips tree budget kept hits late 0 → late ≡ 0
no_late pips tree budget kept now hits late now_is usable good counts =
    let all = all_hit pips tree budget kept (usable kept now_is) good in
    let most : late + length all.0 ≤ run_count pips (verdicts_of (one_thread pips tree budget)) + 0 = counts.late_are all.0 all.1 in
    let every = all.2 in
    omega (arith, most, every)

-- a slot that holds no run is no accepted run
none_held : (d : Desc) (see : Ask → Answer) (slot : Held) → ((f : Facts) → slot ≡ slots.Ran f → ⊥) → IsAccepted d see slot → ⊥
none_held d see slots.Empty none h = h
none_held d see (slots.Ran f) none h = none f refl
none_held d see (slots.Hit found) none h = h
none_held d see (slots.Plain made) none h = h
none_held d see slots.Skipped none h = h

-- and it runs no tool at all where no slot holds a run
pub no_tool : (pips : List Pip) (tree : Files) (budget : ℕ) (kept : Holdings) (now : StoreTold) (finished : List Held) (hits ran late : ℕ)
    → held_in now ≡ Some kept → LeavesUsable pips tree budget now → list_all is_success (verdicts_of (one_thread pips tree budget)) ≡ true
    → HoldNoRun finished → CountsOver pips tree budget kept finished hits late 0
    → hits + ran ≡ run_count pips (verdicts_of (one_thread pips tree budget)) → ran ≡ 0
no_tool pips tree budget kept now finished hits ran late now_is usable good none counts count =
    let all = all_hit pips tree budget kept (usable kept now_is) good in
    let by_slots = counts.counts all.0 all.1 in
    let least : without_run counts.accepted all.0 ≤ hits + 0 = by_slots.hits_at_least in
    let no_run : without_run counts.accepted all.0 ≡ length all.0 =
    none_is_accepted pips tree budget kept finished counts.accepted (λ i d see h. none_held d see (slot_at finished i) (none i) h) counts.are_accepted all.0 all.1 in
    let every = all.2 in
    omega (arith, least, no_run, every, count)
