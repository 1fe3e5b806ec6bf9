use Rattle.dscript_eval_laws.proofs.MadePrograms.{gives_pip_list}
use Rattle.dscript_eval_laws.proofs.laws.pips_are_a_list.Goals as goal

pub returns : goal.returns
returns c = gives_pip_list
