-- What keeping an entry leaves of a store.
use Rattle.std.specs.Prelude.{List}
use Rattle.bx_io.specs.Holdings.{Change, Holdings, IsPrefix, Makes, StoreTold, holdings_after}
use Rattle.dscript_eval_meaning.specs.Meaning.{Made}
use Rattle.two_phase.specs.Applying.{AppliesAll}
use Rattle.graph_texts.specs.Entries.{IsGraphEntry}
use Rattle.graph_memo_meaning.specs.Contents.{entry_for}
use Rattle.graph_memo_meaning.specs.Honest.{HonestGraphs}
use Rattle.graph_memo_meaning.specs.Saving.{ArePuts, graph_puts}
use Rattle.graph_memo_meaning.specs.Work.{Work, own_answers}
use Rattle.dscript_eval.specs.declared.evaluation.Asked.{Asked}

-- what evaluation made, as contracts see it
abbrev pub made_by : Asked → Made
made_by asked = (asked.pips, asked.asks.items)

-- All texts that the entry names were put, and then the entry, but for puts that would have changed nothing.
pub record KeepsAll (before now : StoreTold) (w : Work) (made : Made) : Type 0 where
  pub entry : IsGraphEntry (entry_for w (own_answers w) made)
  pub applies : AppliesAll before (graph_puts w made) now

-- These puts were made up to some place, but for those that would have changed nothing, and nothing else.
pub record KeepsUpTo (before now : StoreTold) (w : Work) (made : Made) : Type 0 where
  pub first : List Change
  pub are : ArePuts w made first
  pub applies : AppliesAll before first now

-- These changes were made, and what is held, which was this before them, was honest before them and after each.
pub record LeavesHonest (held : Holdings) (before now : StoreTold) : Type 0 where
  pub made : List Change
  pub makes : Makes before made now
  pub along : (start : List Change) → IsPrefix start made → HonestGraphs (holdings_after held start)
