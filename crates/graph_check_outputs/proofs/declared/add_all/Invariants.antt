use Rattle.std.proofs.Common.{◌≡◌, ◌++◌, take}
use Rattle.graph_check_outputs.proofs.declared.add_all.Given as goal

abbrev pub invariant-more : goal.invariant-more
invariant-more l = l.paths.items ≡ l.initial.paths.items ++ take l.path-index l.more
