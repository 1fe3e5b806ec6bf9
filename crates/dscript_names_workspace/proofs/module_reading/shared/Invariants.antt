use Rattle.std.proofs.Common.{◌≡◌, take}
use Rattle.dscript_names_workspace.proofs.module_reading.shared.Given as goal

abbrev pub invariant-paths : goal.invariant-paths
invariant-paths l = l.found.items ≡ take l.path-index l.paths
