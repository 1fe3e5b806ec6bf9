use Rattle.build_misses.proofs.Fair.{fair}
use Rattle.build_misses.proofs.laws.fair_misses.Goals as goal

pub returns : goal.returns
returns c = fair
