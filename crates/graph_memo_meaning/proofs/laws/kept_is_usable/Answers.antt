use Rattle.graph_memo_meaning.proofs.Kept.{kept_usable}
use Rattle.graph_memo_meaning.proofs.laws.kept_is_usable.Goals as goal

pub returns : goal.returns
returns c = kept_usable
