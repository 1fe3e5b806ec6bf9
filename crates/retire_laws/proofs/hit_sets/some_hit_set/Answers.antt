use Rattle.std.proofs.Common.{[]}
use Rattle.retire_laws.proofs.Existing.{some_from}
use Rattle.retire_laws.proofs.hit_sets.some_hit_set.Goals as goal

pub returns : goal.returns
returns c = λ pips tree budget S none. some_from pips tree budget S pips [] 0 none
