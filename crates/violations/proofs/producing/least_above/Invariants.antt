use Rattle.violations.specs.Least.{CoversAbove, Passes, Stays, is_producer}
use Rattle.violations.proofs.producing.least_above.Given as goal

abbrev pub invariant-places : goal.invariant-places
invariant-places l = record {
  passes : Passes (is_producer l.dirs l.pip l.path l.plan.pips) l.fn.before → Passes (is_producer l.dirs l.pip l.path l.plan.pips) l.found;
  stays : Stays l.fn.before l.found;
  covers : CoversAbove (is_producer l.dirs l.pip l.path l.plan.pips) l.plan.pips l.text l.at l.found;
}
