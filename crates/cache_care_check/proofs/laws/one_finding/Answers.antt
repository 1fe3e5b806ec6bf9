use Rattle.cache_care_check.proofs.Told.{one_found, one_list}
use Rattle.cache_care_check.proofs.laws.one_finding.Goals as goal

pub returns-clause-finding : goal.returns-clause-finding
returns-clause-finding c = one_found

pub returns-clause-findings : goal.returns-clause-findings
returns-clause-findings c = one_list
