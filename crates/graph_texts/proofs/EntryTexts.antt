-- Entries and the texts that they have.
use Rattle.std.proofs.Common.{◌≡◌, ℕ, false, List, [], ◌∷◌, ◌++◌, codes, map, Some, refl, sym, ap, ◌∙◌, append_assoc}
use Rattle.std.specs.List.{AllByRecursion, flat_map}
use Rattle.std.proofs.lemmas.List.{append-nil}
use Rattle.std.proofs.lemmas.List.Concat.{flat_map-cons}
use Rattle.std.proofs.lemmas.Option.{same_Some}
use Rattle.observed.specs.Texts.{after_prefix}
use Rattle.observed.proofs.ReadTexts.{prefix_complete, prefix_sound}
use Rattle.bx_digest.specs.Digests.{IsDigest}
use Rattle.memo_format.specs.Seals.{unsealed}
use Rattle.memo_format.proofs.SealTexts.{unsealed_again}
use Rattle.prints.specs.Combining.{after_form, both_form, form_of, pair_form}
use Rattle.prints.specs.Forms.{IsForm}
use Rattle.prints.specs.PartForms.{digest_form, newline}
use Rattle.prints.specs.Parts.{digest_at, digest_part}
use Rattle.prints.specs.Reading.{after_word, both_at}
use Rattle.prints.proofs.LineLists.{lines_form}
use Rattle.graph_texts.specs.Asks.{IsAskLine, ask_line, asks_at, is_ask}
use Rattle.graph_texts.specs.Entries.{IsGraphEntry, graph_entry_body, graph_entry_text}
use Rattle.graph_texts.specs.PartForms.{ask_form, ask_seen, no_ask}
use Rattle.graph_texts.specs.Pips.{pip_row, rows_at}
use Rattle.graph_texts.specs.Rows.{IsRow, kind_text, row_text}
use Rattle.graph_texts.specs.declared.asks.AskLine.{AskLine}
use Rattle.graph_texts.specs.declared.entry.GraphEntry.{GraphEntry}
use Rattle.graph_texts.specs.declared.rows.PipRow.{PipRow}
use Rattle.graph_texts.specs.declared.rows.RowKind.{RowKind}
use Rattle.graph_texts.specs.declared.rows.RowKind.TheVariants as rows
use Rattle.graph_texts.proofs.Linked.{one_link}
use Rattle.graph_texts.proofs.OneText.{one_value}
use Rattle.graph_texts.proofs.PipTexts.{NoRow, are_rows, rows_form, rows_of_pips}

-- ## Bodies

abbrev NoAsk : List ℕ → Type 0
NoAsk text = is_ask text ≡ false

asks_form : IsForm (AllByRecursion IsAskLine) NoAsk (flat_map ask_line) asks_at
unfolding asks_at
asks_form = lines_form is_ask ask_form ask_seen no_ask

-- no line of an ask or a pip comes next
abbrev NoLine : List ℕ → Type 0
NoLine text = NoRow text × NoAsk text

-- lines of pips are none of asks
after_asks : (rs : List PipRow) (rest : List ℕ) → AllByRecursion IsRow rs → NoLine rest → is_ask (flat_map row_text rs ++ rest) ≡ false
after_asks [] rest h k = k.1
after_asks (r ∷ rs) rest h k =
    ap is_ask (ap (λ t. t ++ rest) (flat_map-cons row_text r rs) ∙ append_assoc (row_text r) (flat_map row_text rs) rest)
    ∙ by_kind r.kind (flat_map row_text rs ++ rest)
  where
    by_kind : (kind : RowKind) (more : List ℕ) → is_ask (kind_text r.spec kind ++ more) ≡ false
    by_kind (rows.Process d) more = refl
    by_kind (rows.Copy d) more = refl
    by_kind (rows.Write d) more = refl
    by_kind (rows.Seal d) more = refl

abbrev LineTuple : Type 0
LineTuple = List AskLine × List PipRow

abbrev lines_written : LineTuple → List ℕ
lines_written t = flat_map ask_line t.0 ++ flat_map row_text t.1

abbrev AreLines : LineTuple → Type 0
AreLines t = AllByRecursion IsAskLine t.0 × AllByRecursion IsRow t.1

both_lines : IsForm AreLines NoLine lines_written (both_at asks_at rows_at)
both_lines =
    both_form asks_form
    (form_of (AllByRecursion IsRow) NoLine (λ rs g. g) (λ rs g. g) (λ t k. k.0) rows_form) after_asks

abbrev EntryTuple : Type 0
EntryTuple = List ℕ × LineTuple

abbrev pub first_words : List ℕ
first_words = codes "graph-entry 1\nkey "

abbrev tuple_written : EntryTuple → List ℕ
tuple_written t = first_words ++ (digest_part 10 t.0 ++ lines_written t.1)

body_form : IsForm (λ (t : EntryTuple). IsDigest t.0 × AreLines t.1) NoLine tuple_written
    (after_word first_words (both_at (digest_at 10) (both_at asks_at rows_at)))
body_form = after_form first_words (pair_form (digest_form 10 newline) both_lines)

abbrev tuple_of : GraphEntry → EntryTuple
tuple_of e = (e.key, (e.asks, map pip_row e.pips))

body_written : (e : GraphEntry) → tuple_written (tuple_of e) ≡ graph_entry_body e
body_written e = ap (λ t. first_words ++ (digest_part 10 e.key ++ (flat_map ask_line e.asks ++ t))) (rows_of_pips e.pips)

is_tuple : (e : GraphEntry) → IsGraphEntry e → IsDigest e.key × AreLines (tuple_of e).1
is_tuple e h = (h.key, (h.asks, are_rows e.pips h.pips.each))

-- ## One entry

same_bodies : (d e : GraphEntry) → IsGraphEntry d → IsGraphEntry e → graph_entry_body d ≡ graph_entry_body e → d ≡ e
same_bodies d e g h same =
    let tuples : tuple_of d ≡ tuple_of e =
    one_value body_form (refl, refl) (tuple_of d) (tuple_of e) (is_tuple d g) (is_tuple e h)
    (body_written d ∙ same ∙ sym (body_written e)) in
    let pips = one_link d.pips e.pips g.pips h.pips (ap (λ (t : EntryTuple). t.1.1) tuples) in
    ap (λ k. record { key = k; asks = d.asks; pips = d.pips }) (ap (λ (t : EntryTuple). t.0) tuples)
    ∙ ap (λ a. record { key = e.key; asks = a; pips = d.pips }) (ap (λ (t : EntryTuple). t.1.0) tuples)
    ∙ ap (λ p. record { key = e.key; asks = e.asks; pips = p }) pips

pub same_entries : (d e : GraphEntry) → IsGraphEntry d → IsGraphEntry e → graph_entry_text d ≡ graph_entry_text e → d ≡ e
same_entries d e g h same =
    same_bodies d e g h
    (same_Some (graph_entry_body d) (graph_entry_body e)
    (sym (unsealed_again (graph_entry_body d)) ∙ ap unsealed same ∙ unsealed_again (graph_entry_body e)))

-- ## What the body of an entry is read as

-- The body is read as the entry, part by part.
pub record IsReadAs (body : List ℕ) (e : GraphEntry) : Type 0 where
  pub after : List ℕ
  pub word : after_prefix first_words body ≡ Some after
  pub asks_text : List ℕ
  pub key : digest_at 10 after ≡ Some (e.key, asks_text)
  pub rows_text : List ℕ
  pub asks : asks_at asks_text ≡ Some (e.asks, rows_text)
  pub pips : rows_at rows_text ≡ Some (map pip_row e.pips, [])

pub read_as : (body : List ℕ) (e : GraphEntry) → IsGraphEntry e → body ≡ graph_entry_body e → IsReadAs body e
read_as body e h is =
    let lines = flat_map row_text (map pip_row e.pips) in
    record {
      after = digest_part 10 e.key ++ (flat_map ask_line e.asks ++ lines);
      word = ap (after_prefix first_words) (is ∙ sym (body_written e)) ∙ prefix_complete first_words _;
      asks_text = flat_map ask_line e.asks ++ lines;
      key = (digest_form 10 newline).again e.key (flat_map ask_line e.asks ++ lines) h.key tt;
      rows_text = lines;
      asks =
          asks_form.again e.asks lines h.asks
          (ap is_ask (sym (append-nil lines)) ∙ after_asks (map pip_row e.pips) [] (are_rows e.pips h.pips.each) (refl, refl));
      pips = ap rows_at (sym (append-nil lines)) ∙ rows_form.again (map pip_row e.pips) [] (are_rows e.pips h.pips.each) refl;
    }

-- what is read so is an entry with that body
pub entry_read : (body after asks_text rows_text : List ℕ) (e : GraphEntry) → after_prefix first_words body ≡ Some after
    → digest_at 10 after ≡ Some (e.key, asks_text) → asks_at asks_text ≡ Some (e.asks, rows_text)
    → rows_at rows_text ≡ Some (map pip_row e.pips, []) → body ≡ graph_entry_body e
entry_read body after asks_text rows_text e word key asks pips =
    prefix_sound first_words body after word
    ∙ ap (λ t. first_words ++ t)
    ((digest_form 10 newline).written after (e.key, asks_text) key
    ∙ ap (λ t. digest_part 10 e.key ++ t)
    (asks_form.written asks_text (e.asks, rows_text) asks
    ∙ ap (λ t. flat_map ask_line e.asks ++ t)
    (rows_form.written rows_text (map pip_row e.pips, []) pips ∙ append-nil (flat_map row_text (map pip_row e.pips))
    ∙ rows_of_pips e.pips)))

-- the asks and the key that are read are such
pub asks_read : (text : List ℕ) (taken : List AskLine × List ℕ) → asks_at text ≡ Some taken → AllByRecursion IsAskLine taken.0
asks_read text taken e = asks_form.good text taken e

pub key_read : (text : List ℕ) (taken : List ℕ × List ℕ) → digest_at 10 text ≡ Some taken → IsDigest taken.0
key_read text taken e = (digest_form 10 newline).good text taken e
