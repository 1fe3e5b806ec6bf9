use Rattle.std.proofs.Common.{map, drop}
use Rattle.dscript_names_workspace.specs.Lists.{concat_if_all, sources_at}
use Rattle.dscript_names_workspace.specs.ConfigViews.{item_tree, item_trees}
use Rattle.dscript_names_workspace.proofs.GatheredFiles.{IsGathered}
use Rattle.dscript_names_workspace.proofs.listed_files.sources_in.Given as goal

abbrev pub invariant-items : goal.invariant-items
invariant-items l =
    IsGathered l.tree (concat_if_all (sources_at l.tree l.dir) (item_trees l.items)) l.positions.items
    (concat_if_all (sources_at l.tree l.dir) (map item_tree (drop l.item-index l.items)))
