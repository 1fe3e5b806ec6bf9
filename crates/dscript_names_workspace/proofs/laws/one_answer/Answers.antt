use Rattle.dscript_names_workspace.proofs.OneAnswer.{one_answer}
use Rattle.dscript_names_workspace.proofs.laws.one_answer.Goals as goal

pub returns : goal.returns
returns c = one_answer
