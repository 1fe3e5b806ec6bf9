use Rattle.prints.proofs.StrongTexts.{strong_law}
use Rattle.prints.proofs.laws.strong_texts.Goals as goal

pub returns : goal.returns
returns c = strong_law
