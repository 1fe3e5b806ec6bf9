-- An honest store of graphs stays honest while entries are kept, and what was kept is usable.
use Rattle.std.proofs.Common.{◌≡◌, ◌⊎◌, ℕ, Bool, true, false, true≢false, List, [], ◌∷◌, ◌++◌, map, None, Some, refl, sym, ap, ◌∙◌, subst, inl, inr, append-nil}
use Rattle.std.specs.FinMap.{empty, get-empty, insert}
use Rattle.std.specs.List.{AllByRecursion}
use Rattle.std.specs.Ordering.{eq_by_cmp, nat_cmp}
use Rattle.std.specs.Cmp.Lexicographic.{nat_list_cmp_total, slice_cmp}
use Rattle.std.proofs.lemmas.Cmp.{eq_by_cmp_equiv}
use Rattle.bx_digest.proofs.HashesAreDigests.{is_digest}
use Rattle.bx_tree.proofs.Lists.{all_front}
use Rattle.bx_tree.proofs.Members.{all_has, has_front}
use Rattle.bx_tree.specs.Members.{Has}
use Rattle.sha2.specs.Sha256.{sha256}
use Rattle.bx_io.specs.Holdings.{Change, Holdings, IsPrefix, holdings_after}
use Rattle.bx_io.proofs.Changes.{after-append}
use Rattle.content_store.specs.Contents.{blob_put}
use Rattle.dscript_eval_meaning.specs.Meaning.{Made}
use Rattle.dscript_sdk_calls.specs.Sources.{Answers}
use Rattle.dscript_sdk_calls.specs.declared.tree_ask.TreeAsk.{TreeAsk}
use Rattle.memo_format.specs.StoreNames.{HoldsBlob, at_blob, at_entry}
use Rattle.run_record.specs.Collisions.{NoCollision}
use Rattle.graph_texts.specs.Entries.{IsGraphEntry, graph_entry_text}
use Rattle.graph_texts.specs.Listings.{ArePaths}
use Rattle.graph_texts.specs.declared.asks.AskLine.{AskLine}
use Rattle.graph_texts.specs.declared.entry.GraphEntry.{GraphEntry}
use Rattle.graph_texts.proofs.EntryTexts.{same_entries}
use Rattle.two_phase_meaning.specs.Contents.{HoldsAll}
use Rattle.two_phase_meaning.proofs.Digests.{blob_no_entry, entry_no_blob, same_blob_name}
use Rattle.two_phase_meaning.proofs.Puts.{Grows, blobs_grow, blobs_held, cut, entry_grows, put_or_old, same_name, still_there, there_now}
use Rattle.two_phase_meaning.proofs.Same.{all_map}
use Rattle.graph_memo_meaning.specs.Compared.{ComparedInKeep}
use Rattle.graph_memo_meaning.specs.Contents.{HoldsDigest, HoldsGraph, asks_of, entry_for, key_of, line_for, made_of, named_texts}
use Rattle.graph_memo_meaning.specs.Honest.{HonestGraph, HonestGraphs}
use Rattle.graph_memo_meaning.specs.Saving.{ArePuts, graph_put, graph_puts, text_puts}
use Rattle.graph_memo_meaning.specs.Usable.{UsableGraph}
use Rattle.graph_memo_meaning.specs.Work.{Evaluates, IsWork, Work, own_answers}
use Rattle.graph_memo_meaning.proofs.Found.{tree_paths}

-- ## Texts are put

still_honest : (S T : Holdings) → Grows S T → (e : GraphEntry) → HonestGraph S e → HonestGraph T e
still_honest S T grows e h = record {
  work = h.work;
  is_work = h.is_work;
  answers = h.answers;
  paths = h.paths;
  entry_is = h.entry_is;
  texts = all_map (HoldsBlob S) (HoldsBlob T) (named_texts h.work h.answers (asks_of e)) grows h.texts;
  evaluates = h.evaluates;
}

-- a text that is put is no entry
old_entry : (S : Holdings) (x : List ℕ) (e : GraphEntry) → HoldsGraph (insert S (at_blob (sha256 x)) x) e → HoldsGraph S e
old_entry S x e h = elim (put_or_old S (at_blob (sha256 x)) x (at_entry e.key) (graph_entry_text e) h.held) [
  | inl k ↦ absurd (entry_no_blob e.key (sha256 x) k.0)
  | inr k ↦ record { is_entry = h.is_entry; held = k }
]

old_entries : (xs : List (List ℕ)) (S : Holdings) (e : GraphEntry) → HoldsGraph (holdings_after S (map blob_put xs)) e → HoldsGraph S e
old_entries [] S e h = h
old_entries (x ∷ xs) S e h = old_entry S x e (old_entries xs (insert S (at_blob (sha256 x)) x) e h)

texts_honest : (M : List ℕ → Type 0) → NoCollision M → (xs : List (List ℕ)) → AllByRecursion M xs → (S : Holdings)
    → HonestGraphs S → ((x : List ℕ) → HoldsBlob S x → M x) → HonestGraphs (holdings_after S (map blob_put xs))
texts_honest M none xs met S honest within e h =
    still_honest S (holdings_after S (map blob_put xs)) (blobs_grow M none xs met S within) e
    (honest e (old_entries xs S e h))

-- ## Digests of texts that are put

-- some content of the digest is held after a put under another digest, or under the same
digest_stays : (S : Holdings) (x d : List ℕ) → HoldsDigest S d → HoldsDigest (insert S (at_blob (sha256 x)) x) d
digest_stays S x d h = by_name (eq_by_cmp (slice_cmp nat_cmp) (at_blob (sha256 h.0)) (at_blob (sha256 x))) refl
  where
    by_name : (b : Bool) → eq_by_cmp (slice_cmp nat_cmp) (at_blob (sha256 h.0)) (at_blob (sha256 x)) ≡ b
        → HoldsDigest (insert S (at_blob (sha256 x)) x) d
    by_name true e =
        let digests : sha256 h.0 ≡ sha256 x =
        same_blob_name (sha256 h.0) (sha256 x) (is_digest h.0) (is_digest x) (same_name (at_blob (sha256 h.0)) (at_blob (sha256 x)) e) in
        (x, record { held = there_now S (at_blob (sha256 x)) x; digest_is = sym digests ∙ h.1.digest_is })
    by_name false e = (
      h.0,
      record {
        held = still_there S (at_blob (sha256 x)) x (at_blob (sha256 h.0)) h.0 (λ same. absurd (apart same)) h.1.held;
        digest_is = h.1.digest_is;
      },
    )
      where
        apart : at_blob (sha256 h.0) ≡ at_blob (sha256 x) → ⊥
        apart same =
            true≢false
            (sym ((eq_by_cmp_equiv nat_list_cmp_total).refl (at_blob (sha256 x)))
            ∙ ap (λ (n : List ℕ). eq_by_cmp (slice_cmp nat_cmp) n (at_blob (sha256 x))) (sym same) ∙ e)

digests_stay : (xs : List (List ℕ)) (S : Holdings) (d : List ℕ) → HoldsDigest S d → HoldsDigest (holdings_after S (map blob_put xs)) d
digests_stay [] S d h = h
digests_stay (x ∷ xs) S d h = digests_stay xs (insert S (at_blob (sha256 x)) x) d (digest_stays S x d h)

-- some content is held under the digest of each text that was put
digests_held : (xs : List (List ℕ)) (S : Holdings) → AllByRecursion (HoldsDigest (holdings_after S (map blob_put xs))) (map sha256 xs)
digests_held [] S = tt
digests_held (x ∷ xs) S =
    let after = insert S (at_blob (sha256 x)) x in (
      digests_stay xs after (sha256 x) (x, record { held = there_now S (at_blob (sha256 x)) x; digest_is = refl }),
      digests_held xs after,
    )

-- and after an entry was put
entry_keeps : (S : Holdings) (key text : List ℕ) (d : List ℕ) → HoldsDigest S d → HoldsDigest (insert S (at_entry key) text) d
entry_keeps S key text d h = (
  h.0,
  record {
    held = still_there S (at_entry key) text (at_blob (sha256 h.0)) h.0 (λ e. absurd (blob_no_entry (sha256 h.0) key e)) h.1.held;
    digest_is = h.1.digest_is;
  },
)

-- ## The entry is put

lines_asks : (answers : Answers) (asks : List TreeAsk)
    → map (λ (a : AskLine). a.ask) (map (line_for answers) asks) ≡ asks
lines_asks answers [] = refl
lines_asks answers (ask ∷ asks) = ap (λ t. ask ∷ t) (lines_asks answers asks)

same_made : (w : Work) (answers : Answers) (made : Made) → made_of (entry_for w answers made) ≡ made
same_made w answers made = ap (λ asks. (made.0, asks)) (lines_asks answers made.1)

all_paths : (w : Work) → IsWork w → (asks : List TreeAsk) → AllByRecursion (λ ask. ArePaths (own_answers w ask)) asks
all_paths w is [] = tt
all_paths w is (ask ∷ asks) = (tree_paths w.sources is.tree ask, all_paths w is asks)

-- the entry of what was made is honest where the texts that it names are held
made_honest : (T : Holdings) (w : Work) (made : Made) → IsWork w → Evaluates w (own_answers w) made
    → HoldsAll T (named_texts w (own_answers w) made.1) → HonestGraph T (entry_for w (own_answers w) made)
made_honest T w made is evaluates held =
    let same = same_made w (own_answers w) made in
    record {
      work = w;
      is_work = is;
      answers = own_answers w;
      paths = all_paths w is (asks_of (entry_for w (own_answers w) made));
      entry_is = ap (entry_for w (own_answers w)) same;
      texts = subst (λ (m : Made). HoldsAll T (named_texts w (own_answers w) m.1)) (sym same) held;
      evaluates = subst (Evaluates w (own_answers w)) (sym same) evaluates;
    }

-- an entry that is held once an entry was put: that one, or one that was held before
entry_or_old : (T : Holdings) (key : List ℕ) (new e : GraphEntry) → IsGraphEntry new
    → HoldsGraph (insert T (at_entry key) (graph_entry_text new)) e → HoldsGraph T e ⊎ (e ≡ new)
entry_or_old T key new e is h =
    elim (put_or_old T (at_entry key) (graph_entry_text new) (at_entry e.key) (graph_entry_text e) h.held) [
      | inl k ↦ inr (sym (same_entries new e is h.is_entry k.1))
      | inr k ↦ inl (record { is_entry = h.is_entry; held = k })
    ]

entry_honest : (T : Holdings) (key : List ℕ) (new : GraphEntry) → IsGraphEntry new → HonestGraphs T → HonestGraph T new
    → HonestGraphs (insert T (at_entry key) (graph_entry_text new))
entry_honest T key new is honest made e h =
    let grows = entry_grows T key (graph_entry_text new) in
    elim (entry_or_old T key new e is h) [
      | inl old ↦ still_honest T (insert T (at_entry key) (graph_entry_text new)) grows e (honest e old)
      | inr same ↦
          subst (HonestGraph (insert T (at_entry key) (graph_entry_text new))) (sym same)
          (still_honest T (insert T (at_entry key) (graph_entry_text new)) grows new made)
    ]

-- ## All puts

-- what is held once all was put
abbrev after_all : Holdings → Work → Made → Holdings
after_all G w made =
    insert (holdings_after G (text_puts w made)) (at_entry (sha256 (key_of w))) (graph_entry_text (entry_for w (own_answers w) made))

-- where the puts got to: some of the texts, or all of them with the entry
data Reached (G : Holdings) (w : Work) (made : Made) (changes : List Change) : Type 0 where
  some_texts : (ys zs : List (List ℕ)) → ys ++ zs ≡ named_texts w (own_answers w) made.1 → changes ≡ map blob_put ys
      → Reached G w made changes
  whole : IsGraphEntry (entry_for w (own_answers w) made) → holdings_after G changes ≡ after_all G w made → Reached G w made changes

module _ (G : Holdings) (w : Work) (made : Made) where
  abbrev texts : List (List ℕ)
  texts = named_texts w (own_answers w) made.1

  abbrev entry : GraphEntry
  entry = entry_for w (own_answers w) made

  abbrev after_texts : Holdings
  after_texts = holdings_after G (text_puts w made)

  after_puts : holdings_after G (graph_puts w made) ≡ after_all G w made
  after_puts = after-append G (text_puts w made) (graph_put w made ∷ [])

  only_texts : (changes : List Change) → changes ≡ text_puts w made → Reached G w made changes
  only_texts changes e = some_texts texts [] (append-nil texts) e

  of_rest : IsGraphEntry entry → (changes rest : List Change) → changes ≡ text_puts w made ++ rest
      → IsPrefix rest (graph_put w made ∷ []) → Reached G w made changes
  of_rest is changes [] e p = only_texts changes (e ∙ append-nil (text_puts w made))
  of_rest is changes (c ∷ []) e p =
      let joined : c ∷ p.rest ≡ graph_put w made ∷ [] = p.joined in
      let here : c ≡ graph_put w made = cc in
      whole is (ap (holdings_after G) (e ∙ ap (λ (d : Change). text_puts w made ++ d ∷ []) here) ∙ after_puts)
  of_rest is changes (c ∷ d ∷ more) e p =
      let joined : c ∷ d ∷ (more ++ p.rest) ≡ graph_put w made ∷ [] = p.joined in absurd cc

  no_rest : (changes rest : List Change) → changes ≡ text_puts w made ++ rest → IsPrefix rest [] → Reached G w made changes
  no_rest changes [] e p = only_texts changes (e ∙ append-nil (text_puts w made))
  no_rest changes (c ∷ rest) e p = let joined : c ∷ (rest ++ p.rest) ≡ [] = p.joined in absurd cc

  reached : (changes : List Change) → ArePuts w made changes → Reached G w made changes
  reached changes are = elim are.entry [
    | inl few ↦
        elim (cut texts [] changes (record { rest = few.rest; joined = few.joined ∙ sym (append-nil (text_puts w made)) })) [
          | inl h ↦ some_texts h.0 h.1 h.2 h.3
          | inr h ↦ no_rest changes h.0 h.1 h.2
        ]
    | inr is ↦ elim (cut texts (graph_put w made ∷ []) changes are.first) [
      | inl h ↦ some_texts h.0 h.1 h.2 h.3
      | inr h ↦ of_rest is changes h.0 h.1 h.2
    ]
  ]

  abbrev Met : List ℕ → Type 0
  Met = ComparedInKeep G w made.1

  met : AllByRecursion Met texts
  met = all_has Met texts (λ x h. inr h)

  within : (x : List ℕ) → HoldsBlob G x → Met x
  within x h = inl h

  stays : HonestGraphs G → IsWork w → Evaluates w (own_answers w) made → NoCollision Met → (changes : List Change)
      → Reached G w made changes → HonestGraphs (holdings_after G changes)
  stays honest is evaluates none changes (some_texts ys zs e c) =
      subst (λ cs. HonestGraphs (holdings_after G cs)) (sym c)
      (texts_honest Met none ys (all_front Met ys zs (subst (AllByRecursion Met) (sym e) met)) G honest within)
  stays honest is evaluates none changes (whole entry_is e) =
      subst HonestGraphs (sym e)
      (entry_honest after_texts (sha256 (key_of w)) entry entry_is (texts_honest Met none texts met G honest within)
      (made_honest after_texts w made is evaluates (blobs_held Met none texts met G within)))

  -- ## What is added

  text_added : (xs : List (List ℕ)) (S : Holdings) (y : List ℕ) → HoldsBlob (holdings_after S (map blob_put xs)) y
      → HoldsBlob S y ⊎ Has xs y
  text_added [] S y h = inl h
  text_added (x ∷ xs) S y h = elim (text_added xs (insert S (at_blob (sha256 x)) x) y h) [
    | inl k ↦ elim (put_or_old S (at_blob (sha256 x)) x (at_blob (sha256 y)) y k) [
      | inl e ↦ inr (inl e.1)
      | inr old ↦ inl old
    ]
    | inr k ↦ inr (inr k)
  ]

  contents_added : (changes : List Change) → Reached G w made changes → (x : List ℕ) → HoldsBlob (holdings_after G changes) x
      → HoldsBlob G x ⊎ Has texts x
  contents_added changes (some_texts ys zs e c) x h =
      elim (text_added ys G x (subst (λ cs. HoldsBlob (holdings_after G cs) x) c h)) [
        | inl old ↦ inl old
        | inr new ↦ inr (subst (λ xs. Has xs x) e (has_front ys zs x new))
      ]
  contents_added changes (whole is e) x h =
      elim (put_or_old after_texts (at_entry (sha256 (key_of w))) (graph_entry_text entry) (at_blob (sha256 x)) x
      (subst (λ T. HoldsBlob T x) e h)) [
        | inl k ↦ absurd (blob_no_entry (sha256 x) (sha256 (key_of w)) k.0)
        | inr old ↦ text_added texts G x old
      ]

  entries_added : (changes : List Change) → Reached G w made changes → (e : GraphEntry) → HoldsGraph (holdings_after G changes) e
      → HoldsGraph G e ⊎ (e ≡ entry)
  entries_added changes (some_texts ys zs f c) e h =
      inl (old_entries ys G e (subst (λ cs. HoldsGraph (holdings_after G cs) e) c h))
  entries_added changes (whole is f) e h =
      elim (entry_or_old after_texts (sha256 (key_of w)) entry e is (subst (λ T. HoldsGraph T e) f h)) [
        | inl old ↦ inl (old_entries texts G e old)
        | inr new ↦ inr new
      ]

  -- ## What was kept

  usable : IsGraphEntry entry → UsableGraph (after_all G w made) w entry
  usable is =
      let same = same_made w (own_answers w) made in
      record {
        held = record {
          is_entry = is;
          held = there_now after_texts (at_entry (sha256 (key_of w))) (graph_entry_text entry);
        };
        entry_is = ap (entry_for w (own_answers w)) same;
        texts =
            subst (λ (m : Made). AllByRecursion (HoldsDigest (after_all G w made)) (map sha256 (named_texts w (own_answers w) m.1))) (sym same)
            (all_map (HoldsDigest after_texts) (HoldsDigest (after_all G w made)) (map sha256 texts)
            (entry_keeps after_texts (sha256 (key_of w)) (graph_entry_text entry)) (digests_held texts G));
      }

-- ## The laws

pub puts_stay_honest : (G : Holdings) (w : Work) (made : Made) → HonestGraphs G → IsWork w
    → Evaluates w (own_answers w) made → NoCollision (ComparedInKeep G w made.1) → (changes : List Change)
    → ArePuts w made changes → HonestGraphs (holdings_after G changes)
puts_stay_honest G w made honest is evaluates none changes are =
    stays G w made honest is evaluates none changes (reached G w made changes are)

pub texts_add : (G : Holdings) (w : Work) (made : Made) (changes : List Change) → ArePuts w made changes → (x : List ℕ)
    → HoldsBlob (holdings_after G changes) x → HoldsBlob G x ⊎ Has (named_texts w (own_answers w) made.1) x
texts_add G w made changes are x h = contents_added G w made changes (reached G w made changes are) x h

pub entries_add : (G : Holdings) (w : Work) (made : Made) (changes : List Change) → ArePuts w made changes
    → (e : GraphEntry) → HoldsGraph (holdings_after G changes) e → HoldsGraph G e ⊎ (e ≡ entry_for w (own_answers w) made)
entries_add G w made changes are e h = entries_added G w made changes (reached G w made changes are) e h

pub kept_usable : (G : Holdings) (w : Work) (made : Made) → IsGraphEntry (entry_for w (own_answers w) made)
    → UsableGraph (holdings_after G (graph_puts w made)) w (entry_for w (own_answers w) made)
kept_usable G w made is =
    subst (λ T. UsableGraph T w (entry_for w (own_answers w) made)) (sym (after_puts G w made)) (usable G w made is)

pub nothing_honest : HonestGraphs empty
nothing_honest e h = absurd (no_some (sym (get-empty (slice_cmp nat_cmp) (at_entry e.key)) ∙ h.held))
  where
    no_some : None ≡ Some (graph_entry_text e) → ⊥
    no_some e = absurd cc
