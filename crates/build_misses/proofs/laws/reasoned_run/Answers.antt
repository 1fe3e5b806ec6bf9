use Rattle.build_misses.proofs.Going.{they_run}
use Rattle.build_misses.proofs.laws.reasoned_run.Goals as goal

pub returns : goal.returns
returns c = they_run
