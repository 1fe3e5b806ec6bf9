use Rattle.std.proofs.Common.{◌≡◌, ◌++◌, drop}
use Rattle.std.specs.List.{flat_map}
use Rattle.pip_graph.specs.GraphText.{file_line}
use Rattle.pip_graph.proofs.nodes.add_files.Given as goal

abbrev pub invariant-paths : goal.invariant-paths
invariant-paths l = l.text.items ++ flat_map file_line (drop l.path-index l.paths) ≡ l.fn.text.items ++ flat_map file_line l.paths
