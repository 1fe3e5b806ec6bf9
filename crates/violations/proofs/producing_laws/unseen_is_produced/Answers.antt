use Rattle.violations.proofs.Produced.{produced}
use Rattle.violations.proofs.producing_laws.unseen_is_produced.Goals as goal

pub returns : goal.returns
returns c = λ j path kind. produced j path kind
