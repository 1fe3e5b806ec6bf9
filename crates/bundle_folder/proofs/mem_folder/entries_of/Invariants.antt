use Rattle.std.proofs.Common.{take}
use Rattle.bundle_folder.specs.Answers.{ListsNodes}
use Rattle.bundle_folder.specs.Stored.{stored}
use Rattle.bundle_folder.proofs.mem_folder.entries_of.Given as goal
use Rattle.bx_tree.specs.Lent.{texts_now}

abbrev pub invariant-things : goal.invariant-things
invariant-things l = ListsNodes (texts_now l.left_out) (stored (take l.placed-index l.things)) l.entries.items
