use Rattle.cache_care.proofs.Trimmed.{trims_honest}
use Rattle.cache_care.proofs.laws.trims_stay_honest.Goals as goal

pub returns : goal.returns
returns c = trims_honest
