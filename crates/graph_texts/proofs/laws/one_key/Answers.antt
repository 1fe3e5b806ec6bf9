use Rattle.graph_texts.proofs.KeyTexts.{same_keys}
use Rattle.graph_texts.proofs.laws.one_key.Goals as goal

pub returns : goal.returns
returns c = same_keys
