use Rattle.two_phase_meaning.proofs.FilesFit.{files_fit}
use Rattle.two_phase_meaning.proofs.laws.good_files_fit.Goals as goal

pub returns : goal.returns
returns c = files_fit
