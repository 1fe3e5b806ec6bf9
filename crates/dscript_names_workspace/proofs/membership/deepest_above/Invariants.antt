use Rattle.std.proofs.Common.{◌+◌, length}
use Rattle.std.specs.Option.{option_map_or}
use Rattle.dscript_names_workspace.specs.PathSets.{has}
use Rattle.dscript_names_workspace.proofs.Deepest.{IsUpTo}
use Rattle.dscript_names_workspace.proofs.membership.deepest_above.Given as goal

abbrev pub invariant-dirs : goal.invariant-dirs
invariant-dirs l = IsUpTo (has l.dirs) l.path l.next

abbrev pub decreases-dirs : goal.decreases-dirs
decreases-dirs l = option_map_or (λ dir. length dir + 1) l.next 0
