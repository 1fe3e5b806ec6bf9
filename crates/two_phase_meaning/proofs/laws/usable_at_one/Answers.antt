use Rattle.two_phase_meaning.proofs.Stays.{at_one, usable_at}
use Rattle.two_phase_meaning.proofs.laws.usable_at_one.Goals as goal

pub returns-clause-one : goal.returns-clause-one
returns-clause-one c = at_one

pub returns-clause-any : goal.returns-clause-any
returns-clause-any c = usable_at
