use Rattle.two_phase.proofs.Prefixes.{leaves_honest}
use Rattle.two_phase.proofs.laws.saves_stay_honest.Goals as goal

pub returns : goal.returns
returns c = leaves_honest
