use Rattle.dscript_eval_laws.proofs.HeardPrograms.{asks_decide}
use Rattle.dscript_eval_laws.proofs.laws.asks_decide.Goals as goal

pub returns : goal.returns
returns c = asks_decide
