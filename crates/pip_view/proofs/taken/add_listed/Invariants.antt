use Rattle.std.proofs.Common.{◌≡◌, ◌++◌, drop}
use Rattle.pip_view.specs.Taken.{dirs_files, taken_names}
use Rattle.pip_view.proofs.taken.add_listed.Given as goal
use Rattle.bx_tree.specs.Lent.{texts_now}

abbrev pub invariant-dirs : goal.invariant-dirs
invariant-dirs l =
    texts_now l.names.items ++ taken_names l.dir (dirs_files l.pips (drop l.listing-index l.dirs))
    ≡ texts_now l.initial.names.items ++ taken_names l.dir (dirs_files l.pips l.dirs)
