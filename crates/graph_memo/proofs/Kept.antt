-- What keeping an entry leaves.
use Rattle.std.proofs.Common.{◌≡◌, ℕ, List, [], ◌∷◌, ◌++◌, map, Some, Result, Ok, Err, inl, inr, refl, sym, ap, ◌∙◌, subst, append_assoc, append-nil}
use Rattle.std.specs.Prelude.{IsSome, OnErr, OnOk}
use Rattle.std.proofs.lemmas.Option.{same_Some}
use Rattle.sha2.specs.Sha256.{sha256}
use Rattle.bx_io.specs.Holdings.{Change, Holdings, IsPrefix, Keeps, Makes, Put, StoreTold, held_in, holdings_after}
use Rattle.bx_io.specs.declared.keeper.PutFault.{PutFault}
use Rattle.bx_io.proofs.Changes.{told_after}
use Rattle.content_store.specs.Contents.{blob_put}
use Rattle.dscript_eval_meaning.specs.Meaning.{Made as MadeOf}
use Rattle.dscript_sdk_calls.specs.declared.tree_ask.TreeAsk.{TreeAsk}
use Rattle.memo_format.specs.StoreNames.{at_entry}
use Rattle.run_record.specs.Collisions.{NoCollision}
use Rattle.two_phase.specs.Applying.{AppliesAll, AppliesPrefix}
use Rattle.two_phase.proofs.Applied.{all_but_next, both, made_of, one_applied}
use Rattle.two_phase.proofs.Prefixes.{some_of}
use Rattle.graph_texts.specs.Entries.{IsGraphEntry, graph_entry_text}
use Rattle.graph_texts.specs.declared.asks.AskLine.{AskLine}
use Rattle.graph_texts.specs.declared.entry.GraphEntry.{GraphEntry}
use Rattle.graph_memo_meaning.specs.Compared.{ComparedInKeep}
use Rattle.graph_memo_meaning.specs.Contents.{entry_for, key_of, line_for, listing_texts, spec_texts}
use Rattle.graph_memo_meaning.specs.Honest.{HonestGraphs}
use Rattle.graph_memo_meaning.specs.Saving.{ArePuts, graph_put, graph_puts, text_puts}
use Rattle.graph_memo_meaning.specs.Usable.{UsableGraph}
use Rattle.graph_memo_meaning.specs.Work.{Evaluates, IsWork, Work, own_answers}
use Rattle.graph_memo_meaning.proofs.Kept.{kept_usable, puts_stay_honest}
use Rattle.graph_memo.specs.Keeping.{KeepsAll, KeepsUpTo, LeavesHonest}

-- ## Prefixes

prefix_on : (a b c : List Change) → IsPrefix a b → IsPrefix b c → IsPrefix a c
prefix_on a b c p q = record {
  rest = p.rest ++ q.rest;
  joined = sym (append_assoc a p.rest q.rest) ∙ ap (λ (x : List Change). x ++ q.rest) p.joined ∙ q.joined;
}

first_puts : (w : Work) (made : MadeOf) (some changes : List Change) → IsPrefix some changes → ArePuts w made changes → ArePuts w made some
first_puts w made some changes p are = record {
  first = prefix_on some changes (graph_puts w made) p are.first;
  entry = elim are.entry [ inl texts ↦ inl (prefix_on some changes (text_puts w made) p texts) | inr is ↦ inr is ];
}

-- ## The laws

pub keeps_honest : (held : Holdings) (before now : StoreTold) (w : Work) (made : MadeOf) → held_in before ≡ Some held → IsSome (held_in now)
    → IsWork w → Evaluates w (own_answers w) made → KeepsUpTo before now w made → HonestGraphs held → NoCollision (ComparedInKeep held w made.1)
    → LeavesHonest held before now
keeps_honest held before now w made was tells is evaluates keeps honest none =
    let last = some_of (held_in now) tells in
    let m = made_of keeps.first held last.0 before now was last.1 keeps.applies in
    record {
      made = m.made;
      makes = m.makes;
      along = λ start p.
          let back = m.along start p in
          subst HonestGraphs (sym back.2)
          (puts_stay_honest held w made honest is evaluates none back.0 (first_puts w made back.0 keeps.first back.1 keeps.are));
    }

pub usable_after : (held after : Holdings) (before now : StoreTold) (w : Work) (made : MadeOf) → held_in before ≡ Some held → held_in now ≡ Some after
    → KeepsAll before now w made → UsableGraph after w (entry_for w (own_answers w) made)
usable_after held after before now w made was is keeps =
    let m = made_of (graph_puts w made) held after before now was is keeps.applies in
    let same : holdings_after held m.made ≡ after =
    same_Some (holdings_after held m.made) after (sym (told_after before now m.made held after was is m.makes) ∙ is) in
    subst (λ (T : Holdings). UsableGraph T w (entry_for w (own_answers w) made)) (sym m.same ∙ same)
    (kept_usable held w made keeps.entry)

-- ## Puts

-- some of the texts were put, and no entry
pub texts_cut : (before now : StoreTold) (w : Work) (made : MadeOf) → AppliesPrefix before now (text_puts w made) → KeepsUpTo before now w made
texts_cut before now w made p = record {
  first = p.first;
  are = record {
    first = record {
      rest = p.is_first.rest ++ graph_put w made ∷ [];
      joined =
          sym (append_assoc p.first p.is_first.rest (graph_put w made ∷ []))
          ∙ ap (λ (x : List Change). x ++ graph_put w made ∷ []) p.is_first.joined;
    };
    entry = inl p.is_first;
  };
  applies = p.applies;
}

-- the same of the texts as they were made
pub made_cut : (before now : StoreTold) (w : Work) (made : MadeOf) (key : List ℕ) (asks : List TreeAsk) → key ≡ key_of w → asks ≡ made.1
    → AppliesPrefix before now (map blob_put (key ∷ (spec_texts w ++ listing_texts (own_answers w) asks))) → KeepsUpTo before now w made
made_cut before now w made key asks key_is asks_are p =
    texts_cut before now w made
    (subst (λ (k : List ℕ). AppliesPrefix before now (map blob_put (k ∷ (spec_texts w ++ listing_texts (own_answers w) made.1)))) key_is
    (subst (λ (qs : List TreeAsk). AppliesPrefix before now (map blob_put (key ∷ (spec_texts w ++ listing_texts (own_answers w) qs)))) asks_are p))

-- nothing was put
pub none_kept : (before now : StoreTold) (w : Work) (made : MadeOf) → Keeps before now → KeepsUpTo before now w made
none_kept before now w made keeps =
    texts_cut before now w made (record { first = []; is_first = record { rest = text_puts w made; joined = refl }; applies = keeps })

-- all was put
pub all_kept : (before now : StoreTold) (w : Work) (made : MadeOf) → KeepsAll before now w made → KeepsUpTo before now w made
all_kept before now w made k = record {
  first = graph_puts w made;
  are = record { first = record { rest = []; joined = append-nil (graph_puts w made) }; entry = inr k.entry };
  applies = k.applies;
}

-- ## The entry

abbrev pub entry_with : List ℕ → List AskLine → MadeOf → GraphEntry
entry_with digest lines made = record { key = digest; asks = lines; pips = made.0 }

entry_same : (w : Work) (made : MadeOf) (key digest : List ℕ) (lines : List AskLine) (asks : List TreeAsk) → key ≡ key_of w → digest ≡ sha256 key
    → asks ≡ made.1 → lines ≡ map (line_for (own_answers w)) asks → entry_with digest lines made ≡ entry_for w (own_answers w) made
entry_same w made key digest lines asks key_is digest_is asks_are lines_are =
    ap (λ (d : List ℕ). entry_with d lines made) (digest_is ∙ ap sha256 key_is)
    ∙ ap (λ (ls : List AskLine). entry_with (sha256 (key_of w)) ls made) (lines_are ∙ ap (map (line_for (own_answers w))) asks_are)

texts_there : (before now : StoreTold) (w : Work) (made : MadeOf) (key : List ℕ) (asks : List TreeAsk) → key ≡ key_of w → asks ≡ made.1
    → AppliesAll before (map blob_put (key ∷ (spec_texts w ++ listing_texts (own_answers w) asks))) now → AppliesAll before (text_puts w made) now
texts_there before now w made key asks key_is asks_are put =
    subst (λ (k : List ℕ). AppliesAll before (map blob_put (k ∷ (spec_texts w ++ listing_texts (own_answers w) made.1))) now) key_is
    (subst (λ (qs : List TreeAsk). AppliesAll before (map blob_put (key ∷ (spec_texts w ++ listing_texts (own_answers w) qs))) now) asks_are put)

-- all texts were put, and then the entry, as it was made
pub graph_made : (k0 k1 k2 : StoreTold) (w : Work) (made : MadeOf) (key digest : List ℕ) (lines : List AskLine) (asks : List TreeAsk)
    (r : Result (Unit {0}) PutFault) → key ≡ key_of w → digest ≡ sha256 key → asks ≡ made.1 → lines ≡ map (line_for (own_answers w)) asks
    → AppliesAll k0 (map blob_put (key ∷ (spec_texts w ++ listing_texts (own_answers w) asks))) k1
    → OnOk r (Makes k1 (Put (at_entry digest) (graph_entry_text (entry_with digest lines made)) ∷ []) k2)
    → OnOk r (IsGraphEntry (entry_with digest lines made)) → OnOk r (KeepsAll k0 k2 w made)
graph_made k0 k1 k2 w made key digest lines asks (Err e) key_is digest_is asks_are lines_are put makes is = tt
graph_made k0 k1 k2 w made key digest lines asks (Ok x) key_is digest_is asks_are lines_are put makes is =
    let same = entry_same w made key digest lines asks key_is digest_is asks_are lines_are in
    record {
      entry = subst IsGraphEntry same is;
      applies = both (text_puts w made) (graph_put w made ∷ []) k0 k1 k2 (texts_there k0 k1 w made key asks key_is asks_are put)
          (one_applied k1 k2 (graph_put w made)
          (inl (subst (λ (e : GraphEntry). Makes k1 (Put (at_entry e.key) (graph_entry_text e) ∷ []) k2) same makes)));
    }

-- all texts were put, and then the entry or nothing
pub graph_first : (k0 k1 k2 : StoreTold) (w : Work) (made : MadeOf) (key digest : List ℕ) (lines : List AskLine) (asks : List TreeAsk)
    (r : Result (Unit {0}) PutFault) → key ≡ key_of w → digest ≡ sha256 key → asks ≡ made.1 → lines ≡ map (line_for (own_answers w)) asks
    → AppliesAll k0 (map blob_put (key ∷ (spec_texts w ++ listing_texts (own_answers w) asks))) k1
    → OnOk r (Makes k1 (Put (at_entry digest) (graph_entry_text (entry_with digest lines made)) ∷ []) k2)
    → OnOk r (IsGraphEntry (entry_with digest lines made)) → OnErr r (Keeps k1 k2) → KeepsUpTo k0 k2 w made
graph_first k0 k1 k2 w made key digest lines asks (Ok x) key_is digest_is asks_are lines_are put makes is refused =
    all_kept k0 k2 w made (graph_made k0 k1 k2 w made key digest lines asks (Ok x) key_is digest_is asks_are lines_are put makes is)
graph_first k0 k1 k2 w made key digest lines asks (Err e) key_is digest_is asks_are lines_are put makes is refused =
    texts_cut k0 k2 w made
    (subst (λ (cs : List Change). AppliesPrefix k0 k2 cs) (append-nil (text_puts w made))
    (all_but_next k0 k1 k2 (text_puts w made) [] (texts_there k0 k1 w made key asks key_is asks_are put) refused))
