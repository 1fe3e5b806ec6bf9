use Rattle.std.proofs.Common.{take}
use Rattle.bx_tree.specs.Trees.{IsTree}
use Rattle.bx_tree.specs.Views.{files_of}
use Rattle.bx_tree.proofs.order.is_tree.Given as goal

abbrev pub invariant-files : goal.invariant-files
invariant-files l = IsTree (files_of (take l.count l.files))
