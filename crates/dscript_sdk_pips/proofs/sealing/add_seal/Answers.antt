use Rattle.dscript_sdk_pips.proofs.NewPips.{directory_of_seal}
use Rattle.dscript_sdk_pips.proofs.sealing.add_seal.Goals as goal

pub returns-clause-answer : goal.returns-clause-answer
returns-clause-answer c = directory_of_seal _ _ c.in_ok-root.root _ _ _ _ c.in_ok-number.ensures.added c.in_ok-root.ensures
