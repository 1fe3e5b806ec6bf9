use Rattle.two_phase_meaning.proofs.Again as again
use Rattle.two_phase_meaning.proofs.laws.saved_is_usable.Goals as goal

pub returns : goal.returns
returns c = again.saved_is_usable
