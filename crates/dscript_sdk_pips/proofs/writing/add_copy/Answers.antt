use Rattle.dscript_sdk_pips.proofs.NewPips.{file_of_pip}
use Rattle.dscript_sdk_pips.proofs.writing.add_copy.Goals as goal

pub returns-clause-answer : goal.returns-clause-answer
returns-clause-answer c = file_of_pip _ _ c.in_ok-made.made _ _ _ _ c.in_ok-number.ensures.added c.in_ok-made.ensures
