use Rattle.dscript_eval_meaning.proofs.CountedPrograms.{steps_taken}
use Rattle.dscript_eval_meaning.proofs.laws.steps_of_programs.Goals as goal

pub returns : goal.returns
returns c = steps_taken
