use Rattle.cache_care.proofs.Repaired.{repairs_honest}
use Rattle.cache_care.proofs.laws.repairs_stay_honest.Goals as goal

pub returns : goal.returns
returns c = repairs_honest
