use Rattle.retire.proofs.SoFar.{success_met}
use Rattle.retire.proofs.build_laws.successes_are_compared.Goals as goal

pub returns : goal.returns
returns c = success_met
