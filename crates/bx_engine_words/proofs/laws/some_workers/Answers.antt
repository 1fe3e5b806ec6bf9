use Rattle.bx_engine_words.proofs.Crews.{some_crew}
use Rattle.bx_engine_words.proofs.laws.some_workers.Goals as goal

pub returns : goal.returns
returns c = some_crew
