use Rattle.std.proofs.Common.{take}
use Rattle.pip_view_directories.specs.Near.{AreOfSeals}
use Rattle.pip_view_directories.proofs.near.of_seals.Given as goal

abbrev pub invariant-seals : goal.invariant-seals
invariant-seals l = AreOfSeals l.pips l.dirs (take l.seal-index l.seals) l.found.items
