use Rattle.prints.proofs.WeakTexts.{weak_again, weak_sound}
use Rattle.prints.proofs.laws.weak_texts.Goals as goal

pub returns-clause-again : goal.returns-clause-again
returns-clause-again c = weak_again

pub returns-clause-found : goal.returns-clause-found
returns-clause-found c = weak_sound
