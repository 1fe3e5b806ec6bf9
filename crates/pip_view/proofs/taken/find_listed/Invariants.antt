use Rattle.std.proofs.Common.{◌≡◌, drop}
use Rattle.pip_view.specs.Taken.{dirs_files, first_at}
use Rattle.pip_view.proofs.taken.find_listed.Given as goal

abbrev pub invariant-dirs : goal.invariant-dirs
invariant-dirs l = first_at l.path (dirs_files l.pips (drop l.dir-index l.dirs)) ≡ first_at l.path (dirs_files l.pips l.dirs)
