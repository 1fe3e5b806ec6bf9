use Rattle.retire.proofs.SuccessFits.{success_fits}
use Rattle.retire.proofs.build_laws.successes_fit.Goals as goal

pub returns : goal.returns
returns c = λ pips tree budget f list keeps sound s. success_fits pips tree budget list f s keeps sound
