use Rattle.violations.proofs.Walking.{leads_decides}
use Rattle.violations.proofs.laws.leads_are_walks.Goals as goal

pub returns : goal.returns
returns c = leads_decides
