-- What is held for a graph of pips: texts under their digests, and an entry.
use Rattle.std.specs.Prelude.{◌≡◌, ℕ, List, ◌∷◌, ◌++◌, map, Some}
use Rattle.std.specs.FinMap.{get}
use Rattle.sha2.specs.Sha256.{sha256}
use Rattle.bx_io.specs.Holdings.{Holdings}
use Rattle.content_store.specs.Contents.{IsContent}
use Rattle.dscript_eval_meaning.specs.Meaning.{Made}
use Rattle.dscript_sdk_calls.specs.Sources.{Answers}
use Rattle.dscript_sdk_calls.specs.declared.tree_ask.TreeAsk.{TreeAsk}
use Rattle.memo_format.specs.StoreNames.{at_entry}
use Rattle.graph_texts.specs.Entries.{IsGraphEntry, graph_entry_text}
use Rattle.graph_texts.specs.Keys.{key_text, text_at}
use Rattle.graph_texts.specs.Listings.{listing_text}
use Rattle.graph_texts.specs.declared.asks.AskLine.{AskLine}
use Rattle.graph_texts.specs.declared.entry.GraphEntry.{GraphEntry}
use Rattle.graph_memo_meaning.specs.Work.{Work, spec_paths}

-- ## Texts

abbrev pub key_of : Work → List ℕ
key_of w = key_text w.budget w.modules w.sources

-- the texts of the specifications, module by module
abbrev pub spec_texts : Work → List (List ℕ)
spec_texts w = map (text_at w.sources) (spec_paths w)

-- the listings that asks are answered, in order
abbrev pub listing_texts : Answers → List TreeAsk → List (List ℕ)
listing_texts answers asks = map (λ ask. listing_text (answers ask)) asks

-- all texts that an entry names
abbrev pub named_texts : Work → Answers → List TreeAsk → List (List ℕ)
named_texts w answers asks = key_of w ∷ (spec_texts w ++ listing_texts answers asks)

-- ## Entries

abbrev pub line_for : Answers → TreeAsk → AskLine
line_for answers ask = record { ask = ask; listing = sha256 (listing_text (answers ask)) }

-- the entry of what these answers lead to
abbrev pub entry_for : Work → Answers → Made → GraphEntry
entry_for w answers made =
    record { key = sha256 (key_of w); asks = map (line_for answers) made.1; pips = made.0 }

-- the asks of an entry, in order
abbrev pub asks_of : GraphEntry → List TreeAsk
asks_of e = map (λ (a : AskLine). a.ask) e.asks

-- the pips and the asks of an entry
abbrev pub made_of : GraphEntry → Made
made_of e = (e.pips, asks_of e)

-- ## What is held

-- The text of an entry is held under the digest of its own key.
pub record HoldsGraph (G : Holdings) (e : GraphEntry) : Type 0 where
  pub is_entry : IsGraphEntry e
  pub held : get G (at_entry e.key) ≡ Some (graph_entry_text e)

-- some content with this digest is held under it
abbrev pub HoldsDigest : Holdings → List ℕ → Type 0
HoldsDigest G digest = (bytes : List ℕ) × IsContent G digest bytes
