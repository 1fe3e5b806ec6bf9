use Rattle.dscript_sdk_pips.proofs.NewPips.{process_of_pip}
use Rattle.dscript_sdk_execute.proofs.calling.add_process.Goals as goal

pub returns-clause-answer : goal.returns-clause-answer
returns-clause-answer c = process_of_pip _ _ _ _ _ c.in_ok-number.ensures.added
