use Rattle.std.proofs.Common.{◌≡◌, drop}
use Rattle.std.specs.List.{list_all}
use Rattle.memo_format.specs.Entries.{output_paths}
use Rattle.two_phase.proofs.fitting.have_all.Given as goal
use Rattle.bx_tree.specs.Paths.{has_path}

abbrev pub invariant-paths : goal.invariant-paths
invariant-paths l = list_all (has_path (output_paths l.outputs)) (drop l.path-index l.paths) ≡ list_all (has_path (output_paths l.outputs)) l.paths
