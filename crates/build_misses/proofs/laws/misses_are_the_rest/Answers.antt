use Rattle.build_misses.proofs.TheRest.{all_of, none_of_both}
use Rattle.build_misses.proofs.laws.misses_are_the_rest.Goals as goal

pub returns-clause-all : goal.returns-clause-all
returns-clause-all c = all_of

pub returns-clause-apart : goal.returns-clause-apart
returns-clause-apart c = none_of_both
