use Rattle.graph_memo_meaning.proofs.Kept.{entries_add, texts_add}
use Rattle.graph_memo_meaning.proofs.laws.graph_puts_add.Goals as goal

pub returns-clause-contents : goal.returns-clause-contents
returns-clause-contents c = texts_add

pub returns-clause-entries : goal.returns-clause-entries
returns-clause-entries c = entries_add
