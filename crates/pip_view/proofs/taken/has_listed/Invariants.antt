use Rattle.std.proofs.Common.{◌≡◌, drop}
use Rattle.pip_view.specs.Taken.{any_below, dirs_files}
use Rattle.pip_view.proofs.taken.has_listed.Given as goal

abbrev pub invariant-dirs : goal.invariant-dirs
invariant-dirs l = any_below l.dir (dirs_files l.pips (drop l.listing-index l.dirs)) ≡ any_below l.dir (dirs_files l.pips l.dirs)
