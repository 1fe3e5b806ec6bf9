use Rattle.std.proofs.Common.{take}
use Rattle.bundle_folder.specs.Folders.{AllApart}
use Rattle.bundle_folder.specs.Stored.{stored}
use Rattle.bundle_folder.proofs.mem_folder.is_free_among.Given as goal

abbrev pub invariant-things : goal.invariant-things
invariant-things l = AllApart (stored (take l.placed-index l.things)) l.place
