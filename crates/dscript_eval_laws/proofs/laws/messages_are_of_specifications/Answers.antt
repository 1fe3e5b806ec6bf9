use Rattle.dscript_eval_laws.proofs.SaidPrograms.{user_says}
use Rattle.dscript_eval_laws.proofs.laws.messages_are_of_specifications.Goals as goal

pub returns : goal.returns
returns c = user_says
