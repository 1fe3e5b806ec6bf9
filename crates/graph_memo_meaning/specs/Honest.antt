-- Honest stores of graphs of pips.
use Rattle.std.specs.Prelude.{◌≡◌}
use Rattle.std.specs.List.{AllByRecursion}
use Rattle.bx_io.specs.Holdings.{Holdings}
use Rattle.dscript_sdk_calls.specs.Sources.{Answers}
use Rattle.graph_texts.specs.Listings.{ArePaths}
use Rattle.graph_texts.specs.declared.entry.GraphEntry.{GraphEntry}
use Rattle.two_phase_meaning.specs.Contents.{HoldsAll}
use Rattle.graph_memo_meaning.specs.Contents.{HoldsGraph, asks_of, entry_for, made_of, named_texts}
use Rattle.graph_memo_meaning.specs.Work.{Evaluates, IsWork, Work}

-- An entry is honest where the texts that it names are held under their digests: a key, the specifications that the
-- key names, and listings; and these specifications, evaluated within the budget of that key, each ask answered by
-- its listing, make just the asks and the pips of the entry.
pub record HonestGraph (G : Holdings) (e : GraphEntry) : Type 0 where
  pub work : Work
  pub is_work : IsWork work
  pub answers : Answers
  pub paths : AllByRecursion (λ ask. ArePaths (answers ask)) (asks_of e)
  pub entry_is : entry_for work answers (made_of e) ≡ e
  pub texts : HoldsAll G (named_texts work answers (asks_of e))
  pub evaluates : Evaluates work answers (made_of e)

-- Each entry that is held under the digest of its key is honest.
abbrev pub HonestGraphs : Holdings → Type 0
HonestGraphs G = (e : GraphEntry) → HoldsGraph G e → HonestGraph G e
