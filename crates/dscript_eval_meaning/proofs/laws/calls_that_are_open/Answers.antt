use Rattle.dscript_eval_meaning.proofs.AlikePrograms.{calls_alike}
use Rattle.dscript_eval_meaning.proofs.laws.calls_that_are_open.Goals as goal

pub returns : goal.returns
returns c = calls_alike
