use Rattle.before_patterns.proofs.SameStores.{usable_stays}
use Rattle.before_patterns.proofs.laws.usable_stays_usable.Goals as goal

pub returns : goal.returns
returns c = usable_stays
