use Rattle.graph_memo.proofs.Kept.{usable_after}
use Rattle.graph_memo.proofs.laws.kept_is_usable.Goals as goal

pub returns : goal.returns
returns c = usable_after
