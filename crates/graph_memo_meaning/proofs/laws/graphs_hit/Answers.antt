use Rattle.graph_memo_meaning.proofs.Found.{graphs_hit}
use Rattle.graph_memo_meaning.proofs.laws.graphs_hit.Goals as goal

pub returns : goal.returns
returns c = graphs_hit
