-- The texts compared, among which there may be no hash collision.
use Rattle.std.specs.Prelude.{◌≡◌, ◌⊎◌, ℕ, List}
use Rattle.sha2.specs.Sha256.{sha256}
use Rattle.bx_tree.specs.Members.{Has}
use Rattle.bx_io.specs.Holdings.{Holdings}
use Rattle.dscript_sdk_calls.specs.declared.tree_ask.TreeAsk.{TreeAsk}
use Rattle.memo_format.specs.StoreNames.{HoldsBlob}
use Rattle.graph_texts.specs.declared.entry.GraphEntry.{GraphEntry}
use Rattle.graph_memo_meaning.specs.Contents.{HoldsGraph, asks_of, key_of, named_texts}
use Rattle.graph_memo_meaning.specs.Work.{Work, own_answers}

-- What is compared where an entry is looked for: what the store holds under its own digest; the key and the texts of
-- the specifications; and the listings that the source files answer to the asks of the entry of that key, if the store
-- holds one. There are finitely many of them, as the store holds finitely many texts.
pub data ComparedInFind (G : Holdings) (w : Work) (x : List ℕ) : Type 0 where
  stored : HoldsBlob G x → ComparedInFind G w x
  today : (e : GraphEntry) → HoldsGraph G e → e.key ≡ sha256 (key_of w) → Has (named_texts w (own_answers w) (asks_of e)) x → ComparedInFind G w x

-- what is compared where evaluation asked this and its entry is kept: what the store holds, and what is put
abbrev pub ComparedInKeep : Holdings → Work → List TreeAsk → List ℕ → Type 0
ComparedInKeep G w asks x = HoldsBlob G x ⊎ Has (named_texts w (own_answers w) asks) x
