use Rattle.miss_reasons.proofs.Excluded.{no_fit, no_reason}
use Rattle.miss_reasons.proofs.laws.reasons_exclude.Goals as goal

pub returns-clause-selector : goal.returns-clause-selector
returns-clause-selector c = no_fit

pub returns-clause-process : goal.returns-clause-process
returns-clause-process c = no_reason
