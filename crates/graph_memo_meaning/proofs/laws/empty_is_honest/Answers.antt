use Rattle.graph_memo_meaning.proofs.Kept.{nothing_honest}
use Rattle.graph_memo_meaning.proofs.laws.empty_is_honest.Goals as goal

pub returns : goal.returns
returns c = nothing_honest
