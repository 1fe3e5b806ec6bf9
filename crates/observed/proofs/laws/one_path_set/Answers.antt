use Rattle.observed.proofs.OneSet.{is_set_of, only_set}
use Rattle.observed.proofs.laws.one_path_set.Goals as goal

pub returns-clause-is : goal.returns-clause-is
returns-clause-is c = is_set_of

pub returns-clause-only : goal.returns-clause-only
returns-clause-only c = only_set
