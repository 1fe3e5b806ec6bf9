use Rattle.std.proofs.Common.{◌≡◌, ◌++◌, take}
use Rattle.pip_view_directories.proofs.ranges.add_all.Given as goal

abbrev pub invariant-dirs : goal.invariant-dirs
invariant-dirs l = l.found.items ≡ l.initial.found.items ++ take l.dir-index l.dirs
