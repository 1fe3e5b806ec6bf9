use Rattle.retire.proofs.AllHits.{all_hit}
use Rattle.retire.proofs.build_laws.all_are_hits.Goals as goal

pub returns : goal.returns
returns c = all_hit
