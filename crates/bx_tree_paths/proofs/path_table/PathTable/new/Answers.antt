use Rattle.std.proofs.Common.{subst, sym}
use Rattle.bx_tree_paths.specs.Tables.{IsTable}
use Rattle.bx_tree_paths.proofs.Numbered.{no_entries}
use Rattle.bx_tree_paths.proofs.path_table.PathTable.new.Goals as goal

pub invariant_of-result : goal.invariant_of-result
invariant_of-result c = subst IsTable (sym c.new.ensures.empty) no_entries
