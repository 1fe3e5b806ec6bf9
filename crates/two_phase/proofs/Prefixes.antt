-- Puts of records that are made one after another, up to some place.
use Rattle.std.proofs.Common.{◌≡◌, ℕ, ◌≤◌, append_assoc, List, [], ◌∷◌, ◌++◌, map, length, Option, Some, None, Result, Ok, Err, refl, sym, ap, ◌∙◌, subst, inl, inr}
use Rattle.std.specs.Prelude.{IsSome, OnOk, filter, not}
use Rattle.std.proofs.lemmas.Option.{same_Some}
use Rattle.sha2.specs.Sha256.{sha256}
use Rattle.bx_io.specs.Holdings.{Change, Holdings, IsPrefix, Keeps, Put, StoreTold, held_in, holdings_after}
use Rattle.bx_io.specs.declared.keeper.PutFault.{PutFault}
use Rattle.bx_io.proofs.Changes.{nothing_before}
use Rattle.run_record.specs.Facts.{Facts, Sound}
use Rattle.memo_format.specs.Selectors.{selectors_text}
use Rattle.memo_format.specs.StoreNames.{at_entry, at_list}
use Rattle.memo_format.specs.declared.selector.Selector.{Selector}
use Rattle.memo_format.specs.declared.selector.TheConstants.{MAX_SELECTORS}
use Rattle.content_store.specs.Contents.{blob_put}
use Rattle.two_phase_meaning.specs.Honest.{Honest}
use Rattle.run_record.specs.Collisions.{NoCollision}
use Rattle.run_record.specs.Digests.{weak_of}
use Rattle.two_phase_meaning.proofs.Puts as saving
use Rattle.two_phase_meaning.specs.Saving.{ComparedInSave, IsGood, list_at, record_selector, same_selector, with_first}
use Rattle.two_phase_meaning.proofs.Again.{few_taken}
use Rattle.two_phase.specs.Applying.{AppliesAll, AppliesPrefix}
use Rattle.two_phase.specs.Putting.{IsListAt, IsNextList, IsWritten, LeavesHonest, PutsAll, PutsUpTo, all_puts, planned, written_selector}
use Rattle.two_phase.specs.declared.recording.Written.{Written}
use Rattle.two_phase.proofs.Applied.{Made, keeps_then_all, made_of, told_before}

-- ## Records

pub some_of : {X : Type 0} (told : Option X) → IsSome told → (x : X) × (told ≡ Some x)
some_of None h = absurd (cc)
some_of (Some x) h = (x, refl)

pub some_list : (told : Option Holdings) (weak : List ℕ) → (old : List Selector) × IsListAt told weak old
some_list None weak = ([], λ S is. absurd (cc))
some_list (Some held) weak = (list_at held weak, λ S is. ap (λ (T : Holdings). list_at T weak) (same_Some held S is))

pub nothing_put : (before now : StoreTold) (f : Facts) → Keeps before now → PutsUpTo before now f
nothing_put before now f keeps =
    let old = some_list (held_in before) (weak_of f.desc) in
    record {
      old = old.0;
      old_is = λ told. old.1;
      first = [];
      is_first = record { rest = planned f old.0; joined = refl };
      applies = keeps;
      spelled = inl refl;
    }

-- the list that was told after a call that changed nothing is the one that was told before it, where something is told in the end
list_before : (before between now : StoreTold) (all : List Change) (weak : List ℕ) (old : List Selector) → Keeps before between → AppliesAll between all now
    → IsListAt (held_in between) weak old → IsSome (held_in now) → IsListAt (held_in before) weak old
list_before before between now all weak old keeps done at told = λ S is.
    let last = some_of (held_in now) told in
    let there = told_before all between now last.0 last.1 done in
    at there.0 there.1 ∙ ap (λ (T : Holdings). list_at T weak) (same_Some there.0 S (sym (keeps.held there.0 there.1) ∙ is))

-- a call that changed nothing comes before the puts of a record
pub keeps_puts : (before between now : StoreTold) (f : Facts) → Keeps before between → PutsUpTo between now f → PutsUpTo before now f
keeps_puts before between now f keeps p = record {
  old = p.old;
  old_is = λ tells. list_before before between now p.first (weak_of f.desc) p.old keeps p.applies (p.old_is tells) tells;
  first = p.first;
  is_first = p.is_first;
  applies = keeps_then_all p.first before between now keeps p.applies;
  spelled = p.spelled;
}

pub keeps_puts_all : (before between now : StoreTold) (f : Facts) → Keeps before between → PutsAll between now f → PutsAll before now f
keeps_puts_all before between now f keeps p = record {
  old = p.old;
  old_is = λ tells. list_before before between now (planned f p.old) (weak_of f.desc) p.old keeps p.applies (p.old_is tells) tells;
  applies = keeps_then_all (planned f p.old) before between now keeps p.applies;
  spelled = p.spelled;
}

-- what is put is what was planned
pub plan_is : (f : Facts) (w : Written) (old : List Selector) (text : List ℕ) → IsWritten f w → text ≡ selectors_text (with_first (written_selector w) old)
    → all_puts w text ≡ planned f old
plan_is f w old text h text_is =
    let s : written_selector w ≡ record_selector f = selector_same (written_selector w) (record_selector f) (ap sha256 h.paths) h.strong_digest in
    let t : text ≡ selectors_text (with_first (record_selector f) old) = text_is ∙ ap (λ (x : Selector). selectors_text (with_first x old)) s in
    alike w.weak.text.items _ w.paths _ w.strong.text.items _ w.contents.items _ w.strong.digest _ w.entry.items _ w.weak.digest _ text _
    h.weak h.paths h.strong h.contents h.strong_digest h.entry h.weak_digest t
  where
    selector_same : (a b : Selector) → a.paths ≡ b.paths → a.strong ≡ b.strong → a ≡ b
    selector_same a b p q = ap (λ x. record { paths = x; strong = a.strong }) p ∙ ap (λ x. record { paths = b.paths; strong = x }) q

    alike : (a a' b b' c c' : List ℕ) (ds ds' : List (List ℕ)) (s s' e e' w w' l l' : List ℕ) → a ≡ a' → b ≡ b' → c ≡ c' → ds ≡ ds' → s ≡ s' → e ≡ e' → w ≡ w' → l ≡ l'
        → map blob_put (a ∷ b ∷ c ∷ ds) ++ (Put (at_entry s) e ∷ Put (at_list w) l ∷ [])
        ≡ map blob_put (a' ∷ b' ∷ c' ∷ ds') ++ (Put (at_entry s') e' ∷ Put (at_list w') l' ∷ [])
    alike a a' b b' c c' ds ds' s s' e e' w w' l l' h0 h1 h2 h3 h4 h5 h6 h7 =
        ap (λ x. map blob_put (x ∷ b ∷ c ∷ ds) ++ (Put (at_entry s) e ∷ Put (at_list w) l ∷ [])) h0
        ∙ ap (λ x. map blob_put (a' ∷ x ∷ c ∷ ds) ++ (Put (at_entry s) e ∷ Put (at_list w) l ∷ [])) h1
        ∙ ap (λ x. map blob_put (a' ∷ b' ∷ x ∷ ds) ++ (Put (at_entry s) e ∷ Put (at_list w) l ∷ [])) h2
        ∙ ap (λ xs. map blob_put (a' ∷ b' ∷ c' ∷ xs) ++ (Put (at_entry s) e ∷ Put (at_list w) l ∷ [])) h3
        ∙ ap (λ x. map blob_put (a' ∷ b' ∷ c' ∷ ds') ++ (Put (at_entry x) e ∷ Put (at_list w) l ∷ [])) h4
        ∙ ap (λ x. map blob_put (a' ∷ b' ∷ c' ∷ ds') ++ (Put (at_entry s') x ∷ Put (at_list w) l ∷ [])) h5
        ∙ ap (λ x. map blob_put (a' ∷ b' ∷ c' ∷ ds') ++ (Put (at_entry s') e' ∷ Put (at_list x) l ∷ [])) h6
        ∙ ap (λ x. map blob_put (a' ∷ b' ∷ c' ∷ ds') ++ (Put (at_entry s') e' ∷ Put (at_list w') x ∷ [])) h7

pub put_up_to : (before now : StoreTold) (f : Facts) (w : Written) (old : List Selector) (text : List ℕ)
    → (IsSome (held_in now) → IsListAt (held_in before) (weak_of f.desc) old)
    → IsWritten f w → all_puts w text ≡ planned f old → AppliesPrefix before now (all_puts w text) → PutsUpTo before now f
put_up_to before now f w old text old_is h plan made = record {
  old = old;
  old_is = old_is;
  first = made.first;
  is_first = subst (IsPrefix made.first) plan made.is_first;
  applies = made.applies;
  spelled = inr h.spelled;
}

pub put_whole : (before now : StoreTold) (f : Facts) (w : Written) (old : List Selector) (text : List ℕ)
    → (IsSome (held_in now) → IsListAt (held_in before) (weak_of f.desc) old)
    → IsWritten f w → all_puts w text ≡ planned f old → AppliesAll before (all_puts w text) now → PutsAll before now f
put_whole before now f w old text old_is h plan made =
    record { old = old; old_is = old_is; applies = subst (λ (cs : List Change). AppliesAll before cs now) plan made; spelled = h.spelled }

-- as a call answers it, with the text of the next list
pub record_made : (before between now : StoreTold) (f : Facts) (w : Written) (text : List ℕ) (r : Result (Unit {0}) PutFault) → Keeps before between
    → IsWritten f w → IsNextList (held_in between) w text → OnOk r (AppliesAll between (all_puts w text) now) → OnOk r (PutsAll before now f)
record_made before between now f w text (Ok x) keeps h next made =
    let there : IsListAt (held_in between) (weak_of f.desc) next.old = subst (λ d. IsListAt (held_in between) d next.old) h.weak_digest next.old_is in
    put_whole before now f w next.old text (list_before before between now (all_puts w text) (weak_of f.desc) next.old keeps made there) h
    (plan_is f w next.old text h next.text_is) (keeps_then_all (all_puts w text) before between now keeps made)
record_made before between now f w text (Err e) keeps h next made = tt

pub record_cut : (before between now : StoreTold) (f : Facts) (w : Written) (text : List ℕ) → Keeps before between → IsWritten f w → IsNextList (held_in between) w text
    → AppliesPrefix between now (all_puts w text) → PutsUpTo before now f
record_cut before between now f w text keeps h next made =
    let there : IsListAt (held_in between) (weak_of f.desc) next.old = subst (λ d. IsListAt (held_in between) d next.old) h.weak_digest next.old_is in
    put_up_to before now f w next.old text (list_before before between now made.first (weak_of f.desc) next.old keeps made.applies there) h
    (plan_is f w next.old text h next.text_is)
    (record { first = made.first; is_first = made.is_first; applies = keeps_then_all made.first before between now keeps made.applies })

pub list_few : (s : Selector) (old list : List Selector) → list ≡ with_first s old → length list ≤ MAX_SELECTORS
list_few s old list is =
    subst (λ (l : List Selector). length l ≤ MAX_SELECTORS) (sym is) (few_taken MAX_SELECTORS (s ∷ filter (λ other. not (same_selector s other)) old))

-- each text has its digest
pub weak_printed : (f : Facts) (w : Written) → IsWritten f w → w.weak.digest ≡ sha256 w.weak.text.items
weak_printed f w h = h.weak_digest ∙ ap sha256 (sym h.weak)

pub strong_printed : (f : Facts) (w : Written) → IsWritten f w → w.strong.digest ≡ sha256 w.strong.text.items
strong_printed f w h = h.strong_digest ∙ ap sha256 (sym h.strong)

-- ## Honest stores

prefix_of_prefix : (start made all : List Change) → IsPrefix start made → IsPrefix made all → IsPrefix start all
prefix_of_prefix start made all p q = record {
  rest = p.rest ++ q.rest;
  joined = sym (append_assoc start p.rest q.rest) ∙ ap (λ cs. cs ++ q.rest) p.joined ∙ q.joined;
}

pub leaves_honest : (held : Holdings) (before now : StoreTold) (f : Facts) → held_in before ≡ Some held → IsSome (held_in now) → Sound f → IsGood f
    → PutsUpTo before now f → Honest held → NoCollision (ComparedInSave held f) → LeavesHonest held before now
leaves_honest held before now f was told sound good puts honest apart =
    let last = some_of (held_in now) told in
    let done : Made held before puts.first now = made_of puts.first held last.0 before now was last.1 puts.applies in
    record {
      made = done.made;
      makes = done.makes;
      along = λ start p. let back = done.along start p in subst Honest (sym back.2) (honest_at back.0 back.1);
    }
  where
    honest_at : (start : List Change) → IsPrefix start puts.first → Honest (holdings_after held start)
    honest_at start p = elim puts.spelled [
      | inl none ↦
          subst (λ (cs : List Change). Honest (holdings_after held cs)) (sym (nothing_before start (subst (IsPrefix start) none p))) honest
      | inr spelled ↦
          saving.puts_stay_honest held f honest sound good spelled apart (with_first (record_selector f) puts.old) start (prefix_of_prefix start puts.first (planned f puts.old) p puts.is_first)
    ]
