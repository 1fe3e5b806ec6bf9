-- What is usable stays so while records of other processes are put; and something is usable where one selector is.
use Rattle.std.proofs.Common.{Bool, ◌≡◌, ℕ, List, [], ◌∷◌, ◌++◌, map, Some, refl, sym, ap, ◌∙◌, subst, inl, inr, append-nil}
use Rattle.std.specs.FinMap.{get, insert}
use Rattle.std.specs.List.{AllByRecursion}
use Rattle.std.proofs.lemmas.Option.{same_Some}
use Rattle.bx_tree.specs.Members.{Has}
use Rattle.bx_tree.proofs.Lists.{all_front}
use Rattle.bx_tree.proofs.Members.{all_has}
use Rattle.sha2.specs.Sha256.{sha256}
use Rattle.bx_digest.specs.Digests.{IsDigest}
use Rattle.pip_model_types.specs.declared.desc.Desc.{Desc}
use Rattle.observed.specs.Texts.{has_match, paths_text}
use Rattle.observed.specs.declared.ask.Ask.{Ask}
use Rattle.observed.specs.declared.access.Answer.{Answer}
use Rattle.bx_io.specs.Holdings.{Change, Holdings, IsPrefix, holdings_after}
use Rattle.bx_io.proofs.Changes.{after-append}
use Rattle.run_record.specs.Facts.{Facts}
use Rattle.prints.specs.Processes.{weak_parts}
use Rattle.prints.specs.Strong.{IsStrong, read_strong_text, strong_parts, strong_text}
use Rattle.prints.specs.Weak.{weak_text}
use Rattle.prints.specs.declared.strong_parts.StrongParts.{StrongParts}
use Rattle.prints.proofs.StrongTexts.{strong_again}
use Rattle.memo_format.specs.Entries.{entry_text}
use Rattle.memo_format.specs.Selectors.{selectors_text}
use Rattle.memo_format.specs.StoreNames.{HoldsBlob, HoldsList, at_blob, at_entry, at_list}
use Rattle.memo_format.specs.declared.selector.Selector.{Selector}
use Rattle.content_store.specs.Contents.{blob_put}
use Rattle.bx_digest.proofs.HashesAreDigests.{is_digest}
use Rattle.run_record.specs.Collisions.{NoCollision, contents_of}
use Rattle.run_record.specs.Digests.{weak_of}
use Rattle.two_phase_meaning.specs.Saving.{ComparedInStay, answers_text, blobs_of, entry_put, list_put, paths_digest, puts_of, record_entry}
use Rattle.two_phase_meaning.specs.Usable.{AnyUsable, Usable, UsableAt, UsableBy, asked_text}
use Rattle.two_phase_meaning.proofs.Digests.{entry_no_blob, entry_no_list, list_no_blob, list_no_entry, same_entry_name, same_list_name}
use Rattle.two_phase_meaning.proofs.Puts.{Grows, blobs_grow, cut, entry_grows, list_grows, still_there}
use Rattle.two_phase_meaning.proofs.Same.{all_map, lines_are}

-- puts of contents leave the lists and entries
blobs_leave : (xs : List (List ℕ)) (S : Holdings) (q bytes : List ℕ) → ((digest : List ℕ) → q ≡ at_blob digest → ⊥) → get S q ≡ Some bytes
    → get (holdings_after S (map blob_put xs)) q ≡ Some bytes
blobs_leave [] S q bytes none h = h
blobs_leave (x ∷ xs) S q bytes none h =
    blobs_leave xs (insert S (at_blob (sha256 x)) x) q bytes none (still_there S (at_blob (sha256 x)) x q bytes (λ e. absurd (none (sha256 x) e)) h)

-- strong texts that are one are under one weak digest
one_weak : (s t : Bool) (d e : Desc) (p q : List ℕ) (as' bs : List Answer) → IsDigest p → IsDigest q
    → strong_text (strong_parts s (weak_of d) p as') ≡ strong_text (strong_parts t (weak_of e) q bs) → weak_of d ≡ weak_of e
one_weak s t d e p q as' bs hp hq same =
    let left : StrongParts = strong_parts s (weak_of d) p as' in
    let right : StrongParts = strong_parts t (weak_of e) q bs in
    let is_left : IsStrong left = record { weak = is_digest (weak_text (weak_parts d)); paths = hp; lines = lines_are as' } in
    let is_right : IsStrong right = record { weak = is_digest (weak_text (weak_parts e)); paths = hq; lines = lines_are bs } in
    ap (λ (x : StrongParts). x.weak) (same_Some left right (sym (strong_again left is_left) ∙ ap read_strong_text same ∙ strong_again right is_right))

-- ## What puts leave at other names

module _ (S : Holdings) (f : Facts) (list : List Selector) where
  abbrev with_blobs : Holdings
  with_blobs = holdings_after S (map blob_put (blobs_of f))

  abbrev with_entry : Holdings
  with_entry = insert with_blobs (at_entry (sha256 (answers_text f))) (entry_text (record_entry f))

  abbrev whole : Holdings
  whole = insert with_entry (at_list (weak_of f.desc)) (selectors_text list)

  is_whole : holdings_after S (puts_of f list) ≡ whole
  is_whole = after-append S (map blob_put (blobs_of f)) (entry_put f ∷ list_put f list ∷ [])

  -- the list of another process
  list_stays : (d : Desc) (bytes : List ℕ) → (weak_of f.desc ≡ weak_of d → ⊥) → get S (at_list (weak_of d)) ≡ Some bytes
      → get whole (at_list (weak_of d)) ≡ Some bytes
  list_stays d bytes others h =
      still_there with_entry (at_list (weak_of f.desc)) (selectors_text list) (at_list (weak_of d)) bytes
      (λ e. absurd (others (sym (same_list_name (weak_of d) (weak_of f.desc) (is_digest (weak_text (weak_parts d))) (is_digest (weak_text (weak_parts f.desc))) e))))
      (still_there with_blobs (at_entry (sha256 (answers_text f))) (entry_text (record_entry f)) (at_list (weak_of d)) bytes
      (λ e. absurd (list_no_entry (weak_of d) (sha256 (answers_text f)) e))
      (blobs_leave (blobs_of f) S (at_list (weak_of d)) bytes (λ digest e. list_no_blob (weak_of d) digest e) h))

pub lists_stay : (S : Holdings) (f : Facts) (d : Desc) → (weak_of f.desc ≡ weak_of d → ⊥) → (list held : List Selector) → HoldsList S (weak_of d) held
    → HoldsList (holdings_after S (puts_of f list)) (weak_of d) held
lists_stay S f d others list held h =
    subst (λ (T : Holdings). HoldsList T (weak_of d) held) (sym (is_whole S f list)) (h.0, list_stays S f list d h.0 others h.1, h.2)

-- ## What any prefix of the puts leaves

-- What is held under its own digest in the first is so in the other, and so are the list of a process, and an entry.
record LeavesOther (S T : Holdings) (weak strong : List ℕ) : Type 0 where
  contents : Grows S T
  list : (bytes : List ℕ) → get S (at_list weak) ≡ Some bytes → get T (at_list weak) ≡ Some bytes
  entry : (bytes : List ℕ) → get S (at_entry strong) ≡ Some bytes → get T (at_entry strong) ≡ Some bytes

module _ (M : List ℕ → Type 0) (apart : NoCollision M) (S : Holdings) (within : (x : List ℕ) → HoldsBlob S x → M x)
    (f : Facts) (met : AllByRecursion M (blobs_of f)) (list : List Selector)
    (d : Desc) (others : weak_of f.desc ≡ weak_of d → ⊥) (strong : List ℕ) (is : IsDigest strong) (another : strong ≡ sha256 (answers_text f) → ⊥) where
  abbrev Leaves : Holdings → Type 0
  Leaves T = LeavesOther S T (weak_of d) strong

  after_blobs : (xs : List (List ℕ)) → AllByRecursion M xs → Leaves (holdings_after S (map blob_put xs))
  after_blobs xs all = record {
    contents = blobs_grow M apart xs all S within;
    list = λ bytes h. blobs_leave xs S (at_list (weak_of d)) bytes (λ digest e. list_no_blob (weak_of d) digest e) h;
    entry = λ bytes h. blobs_leave xs S (at_entry strong) bytes (λ digest e. entry_no_blob strong digest e) h;
  }

  after_entry : (T : Holdings) → Leaves T → Leaves (insert T (at_entry (sha256 (answers_text f))) (entry_text (record_entry f)))
  after_entry T l = record {
    contents = λ x h. entry_grows T (sha256 (answers_text f)) (entry_text (record_entry f)) x (l.contents x h);
    list = λ bytes h.
        still_there T (at_entry (sha256 (answers_text f))) (entry_text (record_entry f)) (at_list (weak_of d)) bytes
        (λ e. absurd (list_no_entry (weak_of d) (sha256 (answers_text f)) e)) (l.list bytes h);
    entry = λ bytes h.
        still_there T (at_entry (sha256 (answers_text f))) (entry_text (record_entry f)) (at_entry strong) bytes
        (λ e. absurd (another (same_entry_name strong (sha256 (answers_text f)) is (is_digest (answers_text f)) e))) (l.entry bytes h);
  }

  after_list : (T : Holdings) → Leaves T → Leaves (insert T (at_list (weak_of f.desc)) (selectors_text list))
  after_list T l = record {
    contents = λ x h. list_grows T (weak_of f.desc) (selectors_text list) x (l.contents x h);
    list = λ bytes h.
        still_there T (at_list (weak_of f.desc)) (selectors_text list) (at_list (weak_of d)) bytes
        (λ e. absurd (others (sym (same_list_name (weak_of d) (weak_of f.desc) (is_digest (weak_text (weak_parts d))) (is_digest (weak_text (weak_parts f.desc))) e))))
        (l.list bytes h);
    entry = λ bytes h.
        still_there T (at_list (weak_of f.desc)) (selectors_text list) (at_entry strong) bytes (λ e. absurd (entry_no_list strong (weak_of f.desc) e)) (l.entry bytes h);
  }

  after_tail : (T : Holdings) → Leaves T → (made : List Change) → IsPrefix made (entry_put f ∷ list_put f list ∷ []) → Leaves (holdings_after T made)
  after_tail T l [] p = l
  after_tail T l (a ∷ []) p =
      let joined : a ∷ p.rest ≡ entry_put f ∷ list_put f list ∷ [] = p.joined in
      let here : entry_put f ≡ a = cc in
      subst (λ (c : Change). Leaves (holdings_after T (c ∷ []))) here (after_entry T l)
  after_tail T l (a ∷ b ∷ []) p =
      let joined : a ∷ b ∷ p.rest ≡ entry_put f ∷ list_put f list ∷ [] = p.joined in
      let here : entry_put f ≡ a = cc in
      let next : list_put f list ≡ b = cc in
      subst (λ (c : Change). Leaves (holdings_after T (c ∷ b ∷ []))) here
      (subst (λ (c : Change). Leaves (holdings_after T (entry_put f ∷ c ∷ []))) next
      (after_list (insert T (at_entry (sha256 (answers_text f))) (entry_text (record_entry f))) (after_entry T l)))
  after_tail T l (a ∷ b ∷ c ∷ more) p =
      let joined : a ∷ b ∷ c ∷ (more ++ p.rest) ≡ entry_put f ∷ list_put f list ∷ [] = p.joined in absurd cc

  in_part : (made : List Change) → IsPrefix made (puts_of f list) → Leaves (holdings_after S made)
  in_part made p = elim (cut (blobs_of f) (entry_put f ∷ list_put f list ∷ []) made p) [
    | inl part ↦
        subst (λ (cs : List Change). Leaves (holdings_after S cs)) (sym part.3)
        (after_blobs part.0 (all_front M part.0 part.1 (subst (AllByRecursion M) (sym part.2) met)))
    | inr all ↦
        let T : Holdings = holdings_after S (map blob_put (blobs_of f)) in
        subst (λ (cs : List Change). Leaves (holdings_after S cs)) (sym all.1)
        (subst Leaves (sym (after-append S (map blob_put (blobs_of f)) all.0)) (after_tail T (after_blobs (blobs_of f) met) all.0 all.2))
  ]

-- ## What is usable

module _ (S T : Holdings) (d : Desc) (see : Ask → Answer) (s : Selector) where
  by_left : (u : UsableBy S d see s) → LeavesOther S T (weak_of d) u.entry.strong → (v : UsableBy T d see s) × (v.asks ≡ u.asks)
  by_left u left =
      let now_usable : UsableBy T d see s = record {
        asks = u.asks;
        paths = (u.paths.0, record { held = left.contents u.paths.0 u.paths.1.held; digest_is = u.paths.1.digest_is }, u.paths.2);
        asked = u.asked;
        entry = u.entry;
        held = record { held = (u.held.held.0, left.entry u.held.held.0 u.held.held.1, u.held.held.2); strong_is = u.held.strong_is };
        weak_is = u.weak_is;
        paths_are = u.paths_are;
        fit = u.fit;
        unnested = u.unnested;
        files = u.files;
        outputs = u.outputs;
        made = all_map (HoldsBlob S) (HoldsBlob T) (contents_of u.files) left.contents u.made;
      } in
      (now_usable, refl)

  at_left : (asks : List Ask) (u : UsableAt S d see s asks) → LeavesOther S T (weak_of d) u.by.entry.strong → UsableAt T d see s asks
  at_left asks u left =
      let kept = by_left u.by left in
      record {
        list = u.list;
        held = (u.held.0, left.list u.held.0 u.held.1, u.held.2);
        listed = u.listed;
        by = kept.0;
        asks_are = kept.1 ∙ u.asks_are;
      }

-- what is usable for a process stays so after any prefix of the puts of a record of another
pub stays_in_part : (S : Holdings) (f : Facts) (d : Desc) (see : Ask → Answer) (s : Selector) (asks : List Ask) → NoCollision (ComparedInStay S f d see s.paths asks)
    → (weak_of f.desc ≡ weak_of d → ⊥) → (list : List Selector) (made : List Change) → IsPrefix made (puts_of f list) → UsableAt S d see s asks
    → UsableAt (holdings_after S made) d see s asks
stays_in_part S f d see s asks apart others list made p u =
    let M : List ℕ → Type 0 = ComparedInStay S f d see s.paths asks in
    let met : AllByRecursion M (blobs_of f) = all_has M (blobs_of f) (λ x h. inl (inr h)) in
    let now : List ℕ = asked_text d see s.paths u.by.asks in
    let now_met : M now = inr (ap (λ (qs : List Ask). asked_text d see s.paths qs) (sym u.asks_are)) in
    let strong : sha256 now ≡ u.by.entry.strong = u.by.asked ∙ sym u.by.held.strong_is in
    let another : u.by.entry.strong ≡ sha256 (answers_text f) → ⊥ = λ e.
    let text : answers_text f ≡ now = apart (answers_text f) now met.1.1.0 now_met (sym e ∙ sym strong) in
    others (one_weak (has_match f.paths) (has_match u.by.asks) f.desc d (paths_digest f) s.paths f.answers (map see u.by.asks) (is_digest (paths_text f.paths)) (subst IsDigest u.by.paths.1.digest_is (is_digest u.by.paths.0)) text) in
    at_left S (holdings_after S made) d see s asks u
    (in_part M apart S (λ x h. inl (inl h)) f met list d others u.by.entry.strong (subst IsDigest strong (is_digest now)) another made p)

pub stays_met : (S : Holdings) (f : Facts) (d : Desc) (see : Ask → Answer) (s : Selector) (asks : List Ask) → NoCollision (ComparedInStay S f d see s.paths asks)
    → (weak_of f.desc ≡ weak_of d → ⊥) → (list : List Selector) → UsableAt S d see s asks → UsableAt (holdings_after S (puts_of f list)) d see s asks
stays_met S f d see s asks apart others list u =
    stays_in_part S f d see s asks apart others list (puts_of f list) (record { rest = []; joined = append-nil (puts_of f list) }) u

-- ## One selector or any

any_of : (S : Holdings) (d : Desc) (see : Ask → Answer) (s : Selector) (list : List Selector) → Has list s → UsableBy S d see s → AnyUsable S d see list
any_of S d see s [] h u = absurd h
any_of S d see s (t ∷ rest) h u = elim h [
  | inl e ↦ inl (subst (UsableBy S d see) (sym e) u)
  | inr r ↦ inr (any_of S d see s rest r u)
]

pub usable_at : (S : Holdings) (d : Desc) (see : Ask → Answer) (s : Selector) (asks : List Ask) → UsableAt S d see s asks → Usable S d see
usable_at S d see s asks u = record { list = u.list; held = u.held; any = any_of S d see s u.list u.listed u.by }

one_of : (S : Holdings) (d : Desc) (see : Ask → Answer) (list : List Selector) → AnyUsable S d see list → (s : Selector) × (Has list s × UsableBy S d see s)
one_of S d see [] h = absurd h
one_of S d see (t ∷ rest) h = elim h [
  | inl u ↦ (t, (inl refl, u))
  | inr r ↦ let o = one_of S d see rest r in (o.0, (inr o.1.0, o.1.1))
]

pub at_one : (S : Holdings) (d : Desc) (see : Ask → Answer) → Usable S d see → (s : Selector) × ((asks : List Ask) × UsableAt S d see s asks)
at_one S d see u =
    let o = one_of S d see u.list u.any in
    (o.0, (o.1.1.asks, record { list = u.list; held = u.held; listed = o.1.0; by = o.1.1; asks_are = refl }))
