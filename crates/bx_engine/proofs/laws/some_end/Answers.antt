use Rattle.bx_engine.proofs.SomeEnding.{some_ending}
use Rattle.bx_engine.proofs.laws.some_end.Goals as goal

pub returns : goal.returns
returns c = some_ending
