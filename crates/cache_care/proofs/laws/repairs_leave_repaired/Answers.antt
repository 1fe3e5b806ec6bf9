use Rattle.cache_care.proofs.Repaired.{repaired}
use Rattle.cache_care.proofs.laws.repairs_leave_repaired.Goals as goal

pub returns : goal.returns
returns c = repaired
