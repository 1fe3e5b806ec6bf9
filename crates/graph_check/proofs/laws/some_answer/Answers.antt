use Rattle.graph_check.proofs.Verdicts.{some_answer_lem}
use Rattle.graph_check.proofs.laws.some_answer.Goals as goal

pub returns : goal.returns
returns c = some_answer_lem
