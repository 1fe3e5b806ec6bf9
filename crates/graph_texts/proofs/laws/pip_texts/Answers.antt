use Rattle.graph_texts.proofs.PipTexts.{same_pips}
use Rattle.graph_texts.proofs.laws.pip_texts.Goals as goal

pub returns : goal.returns
returns c = same_pips
