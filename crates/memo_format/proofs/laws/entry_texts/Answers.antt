use Rattle.memo_format.proofs.FormTexts.{entry_law}
use Rattle.memo_format.proofs.laws.entry_texts.Goals as goal

pub returns : goal.returns
returns c = entry_law
