use Rattle.std.proofs.Common.{◌≡◌, ◌++◌, ◌-◌}
use Rattle.bx_engine_generate.specs.Generated.{lines_from}
use Rattle.bx_engine_generate.proofs.generating.specification.Given as goal

abbrev pub invariant-pips : goal.invariant-pips
invariant-pips l = l.text.items ++ lines_from (l.pips - l.pip) l.pip l.numbers ≡ lines_from l.pips 0 l.seed
