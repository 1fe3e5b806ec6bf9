-- What is put for a graph of pips, and in which order.
use Rattle.std.specs.Prelude.{◌⊎◌, List, [], ◌∷◌, ◌++◌, map}
use Rattle.sha2.specs.Sha256.{sha256}
use Rattle.bx_io.specs.Holdings.{Change, IsPrefix, Put}
use Rattle.content_store.specs.Contents.{blob_put}
use Rattle.dscript_eval_meaning.specs.Meaning.{Made}
use Rattle.memo_format.specs.StoreNames.{at_entry}
use Rattle.graph_texts.specs.Entries.{IsGraphEntry, graph_entry_text}
use Rattle.graph_memo_meaning.specs.Contents.{entry_for, key_of, named_texts}
use Rattle.graph_memo_meaning.specs.Work.{Work, own_answers}

-- the texts that the entry names, each under its digest
abbrev pub text_puts : Work → Made → List Change
text_puts w made = map blob_put (named_texts w (own_answers w) made.1)

abbrev pub graph_put : Work → Made → Change
graph_put w made = Put (at_entry (sha256 (key_of w))) (graph_entry_text (entry_for w (own_answers w) made))

-- The texts that the entry names, and then the entry.
abbrev pub graph_puts : Work → Made → List Change
graph_puts w made = text_puts w made ++ (graph_put w made ∷ [])

-- The changes are these puts up to some place. Where the entry is among them, it is one.
pub record ArePuts (w : Work) (made : Made) (changes : List Change) : Type 0 where
  pub first : IsPrefix changes (graph_puts w made)
  pub entry : IsPrefix changes (text_puts w made) ⊎ IsGraphEntry (entry_for w (own_answers w) made)
