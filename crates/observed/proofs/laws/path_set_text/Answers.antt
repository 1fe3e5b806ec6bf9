use Rattle.observed.proofs.ReadTexts.{text_law}
use Rattle.observed.proofs.laws.path_set_text.Goals as goal

pub returns : goal.returns
returns c = text_law
