use Rattle.retire_laws.proofs.Listed.{all_listed, list_apart}
use Rattle.retire_laws.proofs.compared.what_is_compared_is_listed.Goals as goal

pub returns-clause-listed : goal.returns-clause-listed
returns-clause-listed c = all_listed

pub returns-clause-apart : goal.returns-clause-apart
returns-clause-apart c = list_apart
