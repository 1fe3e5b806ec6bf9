-- What may be taken from a store instead of evaluating.
use Rattle.std.specs.Prelude.{◌≡◌, map}
use Rattle.std.specs.List.{AllByRecursion}
use Rattle.sha2.specs.Sha256.{sha256}
use Rattle.bx_io.specs.Holdings.{Holdings}
use Rattle.graph_texts.specs.declared.entry.GraphEntry.{GraphEntry}
use Rattle.graph_memo_meaning.specs.Contents.{HoldsDigest, HoldsGraph, asks_of, entry_for, made_of, named_texts}
use Rattle.graph_memo_meaning.specs.Work.{Work, own_answers}

-- An entry is usable where it is held; it has the key of this work, and each of its asks, answered by the source
-- files, has the digest that it has in the entry; and each text that it names is held.
pub record UsableGraph (G : Holdings) (w : Work) (e : GraphEntry) : Type 0 where
  pub held : HoldsGraph G e
  pub entry_is : entry_for w (own_answers w) (made_of e) ≡ e
  pub texts : AllByRecursion (HoldsDigest G) (map sha256 (named_texts w (own_answers w) (asks_of e)))

-- some entry is usable
abbrev pub HasUsableGraph : Holdings → Work → Type 0
HasUsableGraph G w = (e : GraphEntry) × UsableGraph G w e
