use Rattle.memo_format.proofs.FormTexts.{selectors_law}
use Rattle.memo_format.proofs.laws.selector_texts.Goals as goal

pub returns : goal.returns
returns c = selectors_law
