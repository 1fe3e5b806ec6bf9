use Rattle.std.specs.FinMap.{empty}
use Rattle.explain.proofs.misses_of.Given as goal

abbrev pub ghost-ask : goal.ghost-ask
ghost-ask a = empty
