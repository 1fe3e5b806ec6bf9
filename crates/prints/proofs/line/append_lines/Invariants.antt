use Rattle.std.proofs.Common.{◌≡◌, ◌++◌, map, take}
use Rattle.std.specs.List.{AllByRecursion, flat_map}
use Rattle.prints.proofs.line.append_lines.Given as goal

abbrev pub invariant-values : goal.invariant-values
invariant-values g l = record {
  text : l.text.items ≡ l.fn.text.items ++ flat_map g.L.Line.line (map g.L.Line.says (take l.value-index l.values));
  fit : AllByRecursion g.L.Line.Fits (map g.L.Line.says (take l.value-index l.values));
}
