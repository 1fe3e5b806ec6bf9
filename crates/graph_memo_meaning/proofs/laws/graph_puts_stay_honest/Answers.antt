use Rattle.graph_memo_meaning.proofs.Kept.{puts_stay_honest}
use Rattle.graph_memo_meaning.proofs.laws.graph_puts_stay_honest.Goals as goal

pub returns : goal.returns
returns c = puts_stay_honest
