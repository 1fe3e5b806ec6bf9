use Rattle.two_phase_meaning.proofs.Puts.{nothing_honest}
use Rattle.two_phase_meaning.proofs.laws.empty_is_honest.Goals as goal

pub returns : goal.returns
returns c = nothing_honest
