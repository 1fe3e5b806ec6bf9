use Rattle.cache_care_check.proofs.Told.{tells}
use Rattle.cache_care_check.proofs.laws.check_tells.Goals as goal

pub returns : goal.returns
returns c = tells
