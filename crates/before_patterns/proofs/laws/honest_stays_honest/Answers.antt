use Rattle.before_patterns.proofs.SameStores.{honest_stays}
use Rattle.before_patterns.proofs.laws.honest_stays_honest.Goals as goal

pub returns : goal.returns
returns c = honest_stays
