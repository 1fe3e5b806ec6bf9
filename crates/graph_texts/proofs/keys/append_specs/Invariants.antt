use Rattle.std.proofs.Common.{◌≡◌, ◌++◌, take}
use Rattle.std.specs.List.{AllByRecursion, flat_map}
use Rattle.bx_tree.specs.Paths.{IsPath}
use Rattle.graph_texts.specs.Keys.{spec_line}
use Rattle.graph_texts.proofs.keys.append_specs.Given as goal

abbrev pub invariant-paths : goal.invariant-paths
invariant-paths l = record {
  text : l.text.items ≡ l.fn.text.items ++ flat_map (spec_line l.tree) (take l.path-index l.paths);
  paths : AllByRecursion IsPath (take l.path-index l.paths);
}
