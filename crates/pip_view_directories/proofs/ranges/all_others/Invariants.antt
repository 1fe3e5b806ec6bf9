use Rattle.std.proofs.Common.{◌≡◌, filter, take}
use Rattle.pip_view_directories.specs.Ranges.{is_other}
use Rattle.pip_view_directories.proofs.ranges.all_others.Given as goal

abbrev pub invariant-dirs : goal.invariant-dirs
invariant-dirs l = l.others.items ≡ filter is_other (take l.dir-index l.dirs)
