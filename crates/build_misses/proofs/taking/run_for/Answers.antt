use Rattle.retire.proofs.Along.{ran_is}
use Rattle.build_misses.proofs.taking.run_for.Goals as goal

pub returns-in-Ok-clause-outcome : goal.returns-in-Ok-clause-outcome
returns-in-Ok-clause-outcome g c = ran_is c.in-Ok.ran c.args.desc (g.V.View.answers c.args.view.now) c.in-Ok.ensures.ran
