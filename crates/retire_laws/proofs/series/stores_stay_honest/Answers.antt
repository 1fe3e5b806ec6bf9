use Rattle.retire_laws.proofs.Chains.{stay_honest}
use Rattle.retire_laws.proofs.series.stores_stay_honest.Goals as goal

pub returns : goal.returns
returns c = stay_honest
