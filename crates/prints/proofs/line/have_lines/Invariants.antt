use Rattle.std.proofs.Common.{map, take}
use Rattle.std.specs.List.{AllByRecursion}
use Rattle.prints.proofs.line.have_lines.Given as goal

abbrev pub invariant-values : goal.invariant-values
invariant-values g l = AllByRecursion g.L.Line.Fits (map g.L.Line.says (take l.value-index l.values))
