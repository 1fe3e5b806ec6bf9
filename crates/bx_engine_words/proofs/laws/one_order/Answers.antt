use Rattle.bx_engine_words.proofs.OneSetting.{one_order}
use Rattle.bx_engine_words.proofs.laws.one_order.Goals as goal

pub returns : goal.returns
returns c = one_order
