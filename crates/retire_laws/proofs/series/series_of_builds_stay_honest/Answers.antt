use Rattle.retire_laws.proofs.Chains.{stay_honest_from_empty}
use Rattle.retire_laws.proofs.series.series_of_builds_stay_honest.Goals as goal

pub returns : goal.returns
returns c = stay_honest_from_empty
