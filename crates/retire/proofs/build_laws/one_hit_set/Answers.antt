use Rattle.std.proofs.Common.{[]}
use Rattle.retire.proofs.SoFar.{one_set}
use Rattle.retire.proofs.build_laws.one_hit_set.Goals as goal

pub returns : goal.returns
returns c = λ pips tree budget S numbers others h k. one_set pips tree budget S pips [] 0 numbers others h k
