use Rattle.graph_memo.proofs.Kept.{keeps_honest}
use Rattle.graph_memo.proofs.laws.keeps_stay_honest.Goals as goal

pub returns : goal.returns
returns c = keeps_honest
