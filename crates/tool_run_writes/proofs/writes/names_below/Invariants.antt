use Rattle.std.proofs.Common.{◌≡◌, map}
use Rattle.std.specs.List.{filter_map}
use Rattle.bx_tree.specs.Below.{next_atom}
use Rattle.tool_run_writes.proofs.NextAtoms.{path_seen}
use Rattle.tool_run_writes.proofs.writes.names_below.Given as goal
use Rattle.bx_tree.specs.Lent.{texts_now}

abbrev pub invariant-files : goal.invariant-files
invariant-files l = texts_now l.names.items ≡ filter_map (next_atom l.dir) (map path_seen l.yielded)
