use Rattle.std.proofs.Common.{take}
use Rattle.violations.specs.Least.{Covers, Passes, Stays, is_producer}
use Rattle.violations.proofs.producing.least_of.Given as goal

abbrev pub invariant-numbers : goal.invariant-numbers
invariant-numbers l = record {
  passes : Passes (is_producer l.dirs l.pip l.path l.pips) l.fn.before → Passes (is_producer l.dirs l.pip l.path l.pips) l.found;
  stays : Stays l.fn.before l.found;
  covers : Covers (is_producer l.dirs l.pip l.path l.pips) (take l.number-index l.numbers) l.found;
}
