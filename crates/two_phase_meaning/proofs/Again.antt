-- What was saved is usable.
use Rattle.std.proofs.Common.{◌≡◌, ℕ, zero, suc, ◌≤◌, Bool, true, false, cond, List, [], ◌∷◌, ◌++◌, map, take, length, Option, Some, None, refl, sym, ap, subst, inl, inr, arith}
use Rattle.std.specs.Prelude.{filter, not}
use Rattle.std.specs.FinMap.{get, insert}
use Rattle.std.specs.List.{AllByRecursion}
use Rattle.bx_tree.proofs.Lists.{all_back}
use Rattle.bx_tree.proofs.Members.{all_has}
use Rattle.sha2.specs.Sha256.{sha256}
use Rattle.observed.specs.Texts.{has_match, paths_text}
use Rattle.observed.specs.declared.ask.Ask.{Ask}
use Rattle.observed.specs.declared.access.Answer.{Answer}
use Rattle.bx_io.specs.Holdings.{Holdings, holdings_after}
use Rattle.bx_io.proofs.Changes.{after-append}
use Rattle.run_record.specs.Facts.{Facts}
use Rattle.prints.specs.Strong.{strong_parts, strong_text}
use Rattle.memo_format.specs.Entries.{entry_text}
use Rattle.memo_format.specs.Selectors.{AreSelectors, IsSelector, read_selectors_text, selectors_text}
use Rattle.memo_format.specs.StoreNames.{HoldsBlob, at_entry, at_list}
use Rattle.memo_format.specs.declared.selector.Selector.{Selector}
use Rattle.memo_format.specs.declared.selector.TheConstants.{MAX_SELECTORS}
use Rattle.memo_format.proofs.FormTexts.{selectors_again, selectors_sound}
use Rattle.content_store.specs.Contents.{blob_put}
use Rattle.bx_digest.proofs.HashesAreDigests.{is_digest}
use Rattle.run_record.specs.Collisions.{NoCollision, contents_of}
use Rattle.run_record.specs.Digests.{weak_of}
use Rattle.two_phase_meaning.specs.Contents.{HoldsAll, desc_contents, given_contents}
use Rattle.two_phase_meaning.specs.Saving.{ComparedInSave, FilesFit, Spelled, answers_text, blobs_of, entry_put, list_at, list_put, or_none, outcome_files, paths_digest, puts_of, record_entry, record_selector, same_selector, selectors_in, with_first}
use Rattle.two_phase_meaning.specs.Usable.{UsableAt, UsableBy}
use Rattle.two_phase_meaning.proofs.Digests.{entry_no_list}
use Rattle.two_phase_meaning.proofs.Puts.{blobs_held, entry_grows, list_grows, still_there, there_now}
use Rattle.two_phase_meaning.proofs.Same.{all_map}

-- ## Lists of selectors

all_take : {X : Type 0} (P : X → Type 0) (n : ℕ) (xs : List X) → AllByRecursion P xs → AllByRecursion P (take n xs)
all_take P zero xs h = tt
all_take P (suc n) [] h = tt
all_take P (suc n) (x ∷ xs) h = (h.0, all_take P n xs h.1)

all_kept : {X : Type 0} (P : X → Type 0) (p : X → Bool) (xs : List X) → AllByRecursion P xs → AllByRecursion P (filter p xs)
all_kept P p [] h = tt
all_kept {X = X} P p (x ∷ xs) h = by_test (p x) (filter p xs) h.0 (all_kept P p xs h.1)
  where
    by_test : (t : Bool) (rest : List X) → P x → AllByRecursion P rest → AllByRecursion P (cond t (x ∷ rest) rest)
    by_test true rest here more = (here, more)
    by_test false rest here more = more

held_selectors : (o : Option (List Selector)) → ((l : List Selector) → o ≡ Some l → AreSelectors l) → AllByRecursion IsSelector (or_none o)
held_selectors None are = tt
held_selectors (Some l) are = (are l refl).each

list_selectors : (o : Option (List ℕ)) → AllByRecursion IsSelector (selectors_in o)
list_selectors None = tt
list_selectors (Some text) = held_selectors (read_selectors_text text) (λ l e. (selectors_sound text l e).0)

pub few_taken : {X : Type 0} (n : ℕ) (xs : List X) → length (take n xs) ≤ n
few_taken zero xs = omega arith
few_taken (suc n) [] = omega arith
few_taken (suc n) (x ∷ xs) = let rest = few_taken n xs in omega (arith, rest)

pub first_are : (s : Selector) (old : List Selector) → IsSelector s → AllByRecursion IsSelector old → AreSelectors (with_first s old)
first_are s old here all = record {
  few = few_taken MAX_SELECTORS (s ∷ filter (λ other. not (same_selector s other)) old);
  each = all_take IsSelector MAX_SELECTORS (s ∷ filter (λ other. not (same_selector s other)) old) (here, all_kept IsSelector (λ other. not (same_selector s other)) old all);
}

-- ## What all puts leave

module _ (S : Holdings) (f : Facts) (spelled : Spelled f) (apart : NoCollision (ComparedInSave S f)) (fit : FilesFit f) where
  abbrev list : List Selector
  list = with_first (record_selector f) (list_at S (weak_of f.desc))

  abbrev with_blobs : Holdings
  with_blobs = holdings_after S (map blob_put (blobs_of f))

  abbrev with_entry : Holdings
  with_entry = insert with_blobs (at_entry (sha256 (answers_text f))) (entry_text (record_entry f))

  abbrev whole : Holdings
  whole = insert with_entry (at_list (weak_of f.desc)) (selectors_text list)

  blobs_stay : HoldsAll whole (blobs_of f)
  blobs_stay =
      all_map (HoldsBlob with_blobs) (HoldsBlob whole) (blobs_of f)
      (λ x h. list_grows with_entry (weak_of f.desc) (selectors_text list) x (entry_grows with_blobs (sha256 (answers_text f)) (entry_text (record_entry f)) x h))
      (blobs_held (ComparedInSave S f) apart (blobs_of f) (all_has (ComparedInSave S f) (blobs_of f) (λ x h. inr h)) S (λ x h. inl h))

  entry_stays : get whole (at_entry (sha256 (answers_text f))) ≡ Some (entry_text (record_entry f))
  entry_stays =
      still_there with_entry (at_list (weak_of f.desc)) (selectors_text list) (at_entry (sha256 (answers_text f))) (entry_text (record_entry f))
      (λ e. absurd (entry_no_list (sha256 (answers_text f)) (weak_of f.desc) e))
      (there_now with_blobs (at_entry (sha256 (answers_text f))) (entry_text (record_entry f)))

  first_usable : (see : Ask → Answer) → f.answers ≡ map see f.paths → (u : UsableBy whole f.desc see (record_selector f)) × (u.asks ≡ f.paths)
  first_usable see now =
      let more = blobs_stay.1.1.1 in
      let later = all_back (HoldsBlob whole) (desc_contents f.desc) (given_contents f.answers ++ contents_of (outcome_files f.outcome)) more in
      let first : UsableBy whole f.desc see (record_selector f) = record {
        asks = f.paths;
        paths = (paths_text f.paths, record { held = blobs_stay.1.0; digest_is = refl }, spelled.paths);
        asked = ap (λ as'. sha256 (strong_text (strong_parts (has_match f.paths) (weak_of f.desc) (paths_digest f) as'))) (sym now);
        entry = record_entry f;
        held = record { held = (entry_text (record_entry f), entry_stays, spelled.entry); strong_is = refl };
        weak_is = refl;
        paths_are = refl;
        fit = fit.fit;
        unnested = fit.unnested;
        files = outcome_files f.outcome;
        outputs = refl;
        made = all_back (HoldsBlob whole) (given_contents f.answers) (contents_of (outcome_files f.outcome)) later;
      } in
      (first, refl)

  usable : (see : Ask → Answer) → f.answers ≡ map see f.paths → UsableAt whole f.desc see (record_selector f) f.paths
  usable see now = record {
    list = list;
    held = (
      selectors_text list,
      there_now with_entry (at_list (weak_of f.desc)) (selectors_text list),
      selectors_again list (first_are (record_selector f) (list_at S (weak_of f.desc))
          (is_digest (paths_text f.paths), is_digest (answers_text f)) (list_selectors (get S (at_list (weak_of f.desc))))),
    );
    listed = inl refl;
    by = (first_usable see now).0;
    asks_are = (first_usable see now).1;
  }

  pub saved_is_usable : (see : Ask → Answer) → f.answers ≡ map see f.paths → UsableAt (holdings_after S (puts_of f list)) f.desc see (record_selector f) f.paths
  saved_is_usable see now =
      subst (λ (T : Holdings). UsableAt T f.desc see (record_selector f) f.paths)
      (sym (after-append S (map blob_put (blobs_of f)) (entry_put f ∷ list_put f list ∷ []))) (usable see now)
