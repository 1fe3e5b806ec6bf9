use Rattle.dscript_names_workspace.proofs.SomeAnswer.{some_answer}
use Rattle.dscript_names_workspace.proofs.laws.some_answer.Goals as goal

pub returns : goal.returns
returns c = some_answer
