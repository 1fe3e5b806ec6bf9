-- Saves of several records leave an honest store honest, and add their entries alone.
use Rattle.std.proofs.Common.{◌≡◌, ◌⊎◌, ℕ, List, [], ◌∷◌, ◌++◌, Option, Some, refl, sym, ap, ◌∙◌, subst, inl, inr, append-nil}
use Rattle.std.specs.Prelude.{IsSome}
use Rattle.std.specs.List.{AllByRecursion}
use Rattle.std.proofs.lemmas.Option.{same_Some}
use Rattle.bx_tree.specs.Members.{Has}
use Rattle.bx_io.specs.Holdings.{Change, Holdings, IsPrefix, StoreTold, held_in, holdings_after}
use Rattle.bx_io.proofs.Changes.{after-append, makes_both, makes_none, nothing_before, told_after}
use Rattle.run_record.specs.Facts.{Facts, Sound}
use Rattle.memo_format.specs.StoreNames.{HoldsBlob, HoldsEntry}
use Rattle.memo_format.specs.declared.entry.Entry.{Entry}
use Rattle.run_record.specs.Collisions.{NoCollision}
use Rattle.two_phase_meaning.specs.Honest.{Honest}
use Rattle.two_phase_meaning.specs.Saving.{ComparedInSave, IsGood, blobs_of, record_entry, record_selector, with_first}
use Rattle.two_phase_meaning.proofs.Added.{contents_added, entries_added}
use Rattle.two_phase.specs.Putting.{LeavesHonest, PutsUpTo}
use Rattle.two_phase.proofs.Applied.{Made, made_of}
use Rattle.two_phase.proofs.Prefixes.{leaves_honest, some_of}
use Rattle.retire.specs.Saving.{PutsEach}
use Rattle.retire.proofs.Putting.{each_told}

-- a prefix of two lists joined: of the first, or the first and a prefix of the next
prefix_cases : (start xs ys : List Change) → IsPrefix start (xs ++ ys) → IsPrefix start xs ⊎ ((rest : List Change) × (start ≡ xs ++ rest) × IsPrefix rest ys)
prefix_cases start [] ys p = inr (start, refl, p)
prefix_cases [] (x ∷ xs) ys p = inl (record { rest = x ∷ xs; joined = refl })
prefix_cases (c ∷ start) (x ∷ xs) ys p =
    let joined : c ∷ (start ++ p.rest) ≡ x ∷ (xs ++ ys) = p.joined in
    let first : c ≡ x = cc in
    let more : start ++ p.rest ≡ xs ++ ys = cc in
    elim (prefix_cases start xs ys (record { rest = p.rest; joined = more })) [
      | inl q ↦ inl (record { rest = q.rest; joined = ap (λ (d : Change). d ∷ (start ++ q.rest)) first ∙ ap (λ cs. x ∷ cs) q.joined })
      | inr q ↦ inr (q.0, ap (λ (d : Change). d ∷ start) first ∙ ap (λ cs. x ∷ cs) q.1, q.2)
    ]

-- the record is sound and of a success, and what is put for it is met
pub record IsReady (M : List ℕ → Type 0) (f : Facts) : Type 0 where
  pub sound : Sound f
  pub good : IsGood f
  pub met : (x : List ℕ) → Has (blobs_of f) x → M x

-- an entry is that of one of the records
abbrev pub IsOfOne : List Facts → Entry → Type 0
IsOfOne fs e = (f : Facts) × Has fs f × (e ≡ record_entry f)

-- What is left of a store that held this: it was honest before each change and after it, and the entries that were added are of the records.
pub record Leaves (held : Holdings) (before : StoreTold) (fs : List Facts) (now : StoreTold) : Type 0 where
  pub honest : LeavesHonest held before now
  pub adds : (S : Holdings) → held_in now ≡ Some S → (e : Entry) → HoldsEntry S e → HoldsEntry held e ⊎ IsOfOne fs e

module _ (M : List ℕ → Type 0) (apart : NoCollision M) where
  abbrev Within : Holdings → Type 0
  Within S = (x : List ℕ) → HoldsBlob S x → M x

  -- ## One record

  keep_apart : (held : Holdings) (f : Facts) → Within held → IsReady M f → NoCollision (ComparedInSave held f)
  keep_apart held f within ready x y h k e = apart x y (met_of x h) (met_of y k) e
    where
      met_of : (z : List ℕ) → ComparedInSave held f z → M z
      met_of z h = elim h [ inl there ↦ within z there | inr put ↦ ready.met z put ]

  pub step_within : (held : Holdings) (f : Facts) (before between : StoreTold) → Within held → IsReady M f → (p : PutsUpTo before between f)
      → (done : Made held before p.first between) → Within (holdings_after held done.made)
  step_within held f before between within ready p done x h =
      elim (contents_added held f (with_first (record_selector f) p.old) p.first p.is_first x (subst (λ (S : Holdings). HoldsBlob S x) done.same h)) [
        | inl old ↦ within x old
        | inr new ↦ ready.met x new
      ]

  step_entry : (held : Holdings) (f : Facts) (before between : StoreTold) (p : PutsUpTo before between f) (e : Entry)
      → HoldsEntry (holdings_after held p.first) e → HoldsEntry held e ⊎ (e ≡ record_entry f)
  step_entry held f before between p e h = elim p.spelled [
    | inl none ↦ inl (subst (λ (cs : List Change). HoldsEntry (holdings_after held cs) e) none h)
    | inr spelled ↦ entries_added held f (with_first (record_selector f) p.old) p.first spelled p.is_first e h
  ]

  -- ## All records

  pub chain : (fs : List Facts) (held : Holdings) (before now : StoreTold) → held_in before ≡ Some held → IsSome (held_in now) → AllByRecursion (IsReady M) fs
      → Within held → Honest held → PutsEach before fs now → Leaves held before fs now
  chain [] held before now was tells ready within honest p = record {
    honest = record {
      made = [];
      makes = makes_none before now p;
      along = λ start q. subst (λ (cs : List Change). Honest (holdings_after held cs)) (sym (nothing_before start q)) honest;
    };
    adds = λ S is e h. inl (subst (λ (T : Holdings). HoldsEntry T e) (same_Some S held (sym (p.held S is) ∙ was)) h);
  }
  chain (f ∷ fs) held before now was tells ready within honest p =
      let one : PutsUpTo before p.0 f = p.1 in
      let last = some_of (held_in now) tells in
      let there : (T : Holdings) × (held_in p.0 ≡ Some T) = each_told fs p.0 now last.0 last.1 p.2 in
      let tells_on : IsSome (held_in p.0) = subst (λ (o : Option Holdings). IsSome o) (sym there.1) refl in
      let first : LeavesHonest held before p.0 =
      leaves_honest held before p.0 f was tells_on ready.0.sound ready.0.good one honest (keep_apart held f within ready.0) in
      let done : Made held before one.first p.0 = made_of one.first held there.0 before p.0 was there.1 one.applies in
      let told : held_in p.0 ≡ Some (holdings_after held first.made) = told_after before p.0 first.made held there.0 was there.1 first.makes in
      let same : holdings_after held done.made ≡ holdings_after held first.made =
      same_Some (holdings_after held done.made) (holdings_after held first.made)
      (sym (told_after before p.0 done.made held there.0 was there.1 done.makes) ∙ told) in
      let rest : Leaves (holdings_after held first.made) p.0 fs now =
      chain fs (holdings_after held first.made) p.0 now told tells ready.1 (subst Within same (step_within held f before p.0 within ready.0 one done))
      (first.along first.made (record { rest = []; joined = append-nil first.made })) p.2 in
      record {
        honest = record {
          made = first.made ++ rest.honest.made;
          makes = makes_both before p.0 now first.made rest.honest.made first.makes rest.honest.makes;
          along = λ start q. elim (prefix_cases start first.made rest.honest.made q) [
            | inl a ↦ first.along start a
            | inr b ↦
                subst (λ (cs : List Change). Honest (holdings_after held cs)) (sym b.1)
                (subst Honest (sym (after-append held first.made b.0)) (rest.honest.along b.0 b.2))
          ];
        };
        adds = λ S is e h. elim (rest.adds S is e h) [
          | inl early ↦ elim (step_entry held f before p.0 one e
              (subst (λ (T : Holdings). HoldsEntry T e) done.same (subst (λ (T : Holdings). HoldsEntry T e) (sym same) early))) [
                | inl old ↦ inl old
                | inr new ↦ inr (f, inl refl, new)
              ]
          | inr late ↦ inr (late.0, inr late.1, late.2)
        ];
      }
