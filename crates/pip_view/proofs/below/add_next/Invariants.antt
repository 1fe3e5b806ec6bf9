use Rattle.std.proofs.Common.{◌≡◌, ◌++◌, take}
use Rattle.std.specs.List.{filter_map}
use Rattle.bx_tree.specs.Below.{next_atom}
use Rattle.bx_tree.specs.Lent.{texts_now}
use Rattle.pip_view.proofs.below.add_next.Given as goal

abbrev pub invariant-paths : goal.invariant-paths
invariant-paths l = texts_now l.names.items ≡ texts_now l.initial.names.items ++ filter_map (next_atom l.dir) (take l.path-index l.paths)
