use Rattle.two_phase_meaning.proofs.Stays.{lists_stay, stays_met}
use Rattle.two_phase_meaning.proofs.laws.others_stay.Goals as goal

pub returns-clause-list : goal.returns-clause-list
returns-clause-list c = lists_stay

pub returns-clause-usable : goal.returns-clause-usable
returns-clause-usable c = stays_met
