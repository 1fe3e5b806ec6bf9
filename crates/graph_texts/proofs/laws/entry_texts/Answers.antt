use Rattle.graph_texts.proofs.EntryTexts.{same_entries}
use Rattle.graph_texts.proofs.laws.entry_texts.Goals as goal

pub returns : goal.returns
returns c = same_entries
