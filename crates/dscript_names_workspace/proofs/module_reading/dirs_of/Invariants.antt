use Rattle.std.proofs.Common.{◌≡◌, map, take}
use Rattle.dscript_names_workspace.specs.Membership.{dir_of}
use Rattle.dscript_names_workspace.proofs.module_reading.dirs_of.Given as goal

abbrev pub invariant-paths : goal.invariant-paths
invariant-paths l = l.dirs.items ≡ map dir_of (take l.path-index l.paths)
