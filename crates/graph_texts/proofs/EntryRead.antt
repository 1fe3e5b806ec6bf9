-- What a text is read as: an entry, or that of none.
use Rattle.std.proofs.Common.{◌≡◌, ℕ, List, [], ◌∷◌, ◌++◌, map, Option, Some, None, Result, Ok, Err, refl, sym, ap, ◌∙◌}
use Rattle.std.specs.List.{flat_map}
use Rattle.std.proofs.lemmas.List.{map-id}
use Rattle.std.proofs.lemmas.Option.{same_Some}
use Rattle.observed.specs.Texts.{after_prefix}
use Rattle.memo_format.specs.Seals.{Unseals, sealed, unsealed}
use Rattle.memo_format.proofs.SealTexts.{unsealed_again, unsealed_sound}
use Rattle.prints.specs.Parts.{digest_at, digest_part}
use Rattle.prints.specs.Reading.{Ends, Taken, Takes, TakesWord}
use Rattle.prints.specs.declared.fault.PrintFault.{PrintFault}
use Rattle.prints.specs.declared.fault.PrintFault.TheVariants as faults
use Rattle.prints.proofs.Joining.{joined_two}
use Rattle.pip_model_types.specs.declared.pip.Pip.{Pip}
use Rattle.graph_texts.specs.Asks.{ask_line, asks_at}
use Rattle.graph_texts.specs.Entries.{GivesEntry, GivesSealed, IsGraphEntry, graph_entry_body, graph_entry_text}
use Rattle.graph_texts.specs.Linking.{TakesPips}
use Rattle.graph_texts.specs.Pips.{pip_row, pips_text, rows_at}
use Rattle.graph_texts.specs.declared.asks.AskLine.{AskLine}
use Rattle.graph_texts.specs.declared.entry.GraphEntry.{GraphEntry}
use Rattle.graph_texts.specs.declared.rows.PipRow.{PipRow}
use Rattle.graph_texts.proofs.EntryTexts.{asks_read, entry_read, first_words, key_read, read_as}

no_some : {X : Type 0} (o : Option X) (x : X) → o ≡ None → o ≡ Some x → ⊥
no_some o x none some = let clash : None ≡ Some x = sym none ∙ some in cc

no_more : (b : ℕ) (bs : List ℕ) → b ∷ bs ≡ [] → ⊥
no_more b bs e = cc

-- lines and what follows them
abbrev rows_left : List PipRow → List ℕ → Taken (List PipRow)
rows_left rows rest = Some (rows, rest)

-- ## An entry

pub entry_found : (body start after asks_text rows_text last : List ℕ) (e : GraphEntry) → start ≡ body
    → after_prefix first_words start ≡ Some after → digest_at 10 after ≡ Some (e.key, asks_text)
    → asks_at asks_text ≡ Some (e.asks, rows_text) → TakesPips (Ok e.pips) last (rows_at rows_text) → last ≡ []
    → IsGraphEntry e × (body ≡ graph_entry_body e)
entry_found body start after asks_text rows_text last e same word key asks pips none = (
  record {
    key = key_read after (e.key, asks_text) key;
    asks = asks_read asks_text (e.asks, rows_text) asks;
    pips = pips.2.are;
  },
  entry_read body after asks_text rows_text e (ap (after_prefix first_words) (sym same) ∙ word) key asks
      (pips.1 ∙ ap (λ (rows : List PipRow). rows_left rows last) (sym pips.2.rows_are)
      ∙ ap (λ (rest : List ℕ). rows_left (map pip_row e.pips) rest) none),
)

-- ## None

module _ (body start : List ℕ) (same : start ≡ body) where
  word_of : (e : GraphEntry) (h : IsGraphEntry e) (is : body ≡ graph_entry_body e)
      → after_prefix first_words start ≡ Some (read_as body e h is).after
  word_of e h is = ap (after_prefix first_words) same ∙ (read_as body e h is).word

  pub word_refused : (fault : PrintFault) (rest : List ℕ) → TakesWord (Err fault) rest (after_prefix first_words start)
      → GivesEntry (Err fault) body
  word_refused faults.BadPrint rest none = λ e h is. no_some (after_prefix first_words start) _ none (word_of e h is)
  word_refused faults.Memory rest never = tt

  module _ (after : List ℕ) (word : after_prefix first_words start ≡ Some after) where
    key_of : (e : GraphEntry) (h : IsGraphEntry e) (is : body ≡ graph_entry_body e)
        → digest_at 10 after ≡ Some (e.key, (read_as body e h is).asks_text)
    key_of e h is =
        let same_after : (read_as body e h is).after ≡ after =
        same_Some (read_as body e h is).after after (sym (word_of e h is) ∙ word) in
        ap (digest_at 10) (sym same_after) ∙ (read_as body e h is).key

    pub key_refused : (fault : PrintFault) (rest : List ℕ) → Takes (Err fault) rest (digest_at 10 after) → GivesEntry (Err fault) body
    key_refused faults.BadPrint rest none = λ e h is. no_some (digest_at 10 after) _ none (key_of e h is)
    key_refused faults.Memory rest h = tt

    module _ (key asks_text : List ℕ) (key_is : digest_at 10 after ≡ Some (key, asks_text)) where
      asks_of : (e : GraphEntry) (h : IsGraphEntry e) (is : body ≡ graph_entry_body e)
          → asks_at asks_text ≡ Some (e.asks, (read_as body e h is).rows_text)
      asks_of e h is =
          let one : List ℕ × List ℕ = (e.key, (read_as body e h is).asks_text) in
          let other : List ℕ × List ℕ = (key, asks_text) in
          let both : one ≡ other = same_Some one other (sym (key_of e h is) ∙ key_is) in
          ap asks_at (sym (ap (λ (t : List ℕ × List ℕ). t.1) both)) ∙ (read_as body e h is).asks

      pub asks_refused : (fault : PrintFault) (rest : List ℕ) → Takes (Err fault) rest (asks_at asks_text) → GivesEntry (Err fault) body
      asks_refused faults.BadPrint rest none = λ e h is. no_some (asks_at asks_text) _ none (asks_of e h is)
      asks_refused faults.Memory rest h = tt

      module _ (asks : List AskLine) (rows_text : List ℕ) (asks_are : asks_at asks_text ≡ Some (asks, rows_text)) where
        rows_of : (e : GraphEntry) (h : IsGraphEntry e) → body ≡ graph_entry_body e → rows_at rows_text ≡ Some (map pip_row e.pips, [])
        rows_of e h is =
            let one : List AskLine × List ℕ = (e.asks, (read_as body e h is).rows_text) in
            let other : List AskLine × List ℕ = (asks, rows_text) in
            let both : one ≡ other = same_Some one other (sym (asks_of e h is) ∙ asks_are) in
            ap rows_at (sym (ap (λ (t : List AskLine × List ℕ). t.1) both)) ∙ (read_as body e h is).pips

        pub pips_refused : (fault : PrintFault) (rest : List ℕ) → TakesPips (Err fault) rest (rows_at rows_text) → GivesEntry (Err fault) body
        pips_refused faults.BadPrint rest none = λ e h is.
            none (map pip_row e.pips) e.pips [] (rows_of e h is) (record { rows_are = refl; are = h.pips })
        pips_refused faults.Memory rest h = tt

        pub end_refused : (fault : PrintFault) (pips : List Pip) (last : List ℕ) → TakesPips (Ok pips) last (rows_at rows_text)
            → Ends (Err fault) last → GivesEntry (Err fault) body
        end_refused faults.BadPrint pips last taken more = λ e h is.
            let one : List PipRow × List ℕ = (taken.0, last) in
            let other : List PipRow × List ℕ = (map pip_row e.pips, []) in
            let both : one ≡ other = same_Some one other (sym taken.1 ∙ rows_of e h is) in
            no_more more.0 more.1 (sym more.2 ∙ ap (λ (t : List PipRow × List ℕ). t.1) both)
        end_refused faults.Memory pips last taken never = tt

-- ## Seals

pub sealed_entry : (r : Result GraphEntry PrintFault) (text body : List ℕ) → unsealed text ≡ Some body → GivesEntry r body → GivesSealed r text
sealed_entry (Ok e) text body fits given = (given.0, unsealed_sound text body fits ∙ ap sealed given.1)
sealed_entry (Err faults.BadPrint) text body fits none = λ e h is.
    none e h (same_Some body (graph_entry_body e) (sym fits ∙ ap unsealed is ∙ unsealed_again (graph_entry_body e)))
sealed_entry (Err faults.Memory) text body fits given = tt

pub unseal_refused : (fault : PrintFault) (text : List ℕ) → Unseals (Err fault) text → GivesSealed (Err fault) text
unseal_refused faults.BadPrint text none = λ e h is.
    no_some (unsealed text) _ none (ap unsealed is ∙ unsealed_again (graph_entry_body e))
unseal_refused faults.Memory text h = tt

-- ## What is written

pub entry_written : (t0 t1 t2 t3 all : List ℕ) (key : List ℕ) (asks : List AskLine) (pips : List Pip) → t0 ≡ first_words
    → t1 ≡ t0 ++ digest_part 10 key → t2 ≡ t1 ++ flat_map ask_line (map (λ a. a) asks) → t3 ≡ t2 ++ pips_text pips → all ≡ sealed t3
    → all ≡ graph_entry_text (record { key = key; asks = asks; pips = pips })
entry_written t0 t1 t2 t3 all key asks pips h0 h1 h2 h3 end =
    let lines : List ℕ = flat_map ask_line (map (λ a. a) asks) in
    let both : t3 ≡ t1 ++ (lines ++ pips_text pips) = joined_two t1 t2 t3 lines (pips_text pips) h2 h3 in
    let three : t3 ≡ t0 ++ (digest_part 10 key ++ (lines ++ pips_text pips)) =
    joined_two t0 t1 t3 (digest_part 10 key) (lines ++ pips_text pips) h1 both in
    end
    ∙ ap sealed (three ∙ ap (λ t. t ++ (digest_part 10 key ++ (lines ++ pips_text pips))) h0)
    ∙ ap (λ (given : List AskLine). graph_entry_text (record { key = key; asks = given; pips = pips })) (map-id asks)
