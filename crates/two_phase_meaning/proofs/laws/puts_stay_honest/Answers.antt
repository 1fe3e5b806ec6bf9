use Rattle.two_phase_meaning.proofs.Puts as puts
use Rattle.two_phase_meaning.proofs.laws.puts_stay_honest.Goals as goal

pub returns : goal.returns
returns c = puts.puts_stay_honest
