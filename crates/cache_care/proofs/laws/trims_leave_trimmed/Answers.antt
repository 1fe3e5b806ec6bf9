use Rattle.cache_care.proofs.Trimmed.{trimmed}
use Rattle.cache_care.proofs.laws.trims_leave_trimmed.Goals as goal

pub returns : goal.returns
returns c = trimmed
