use Rattle.std.proofs.Common.{map, drop}
use Rattle.dscript_names_workspace.specs.Configs.{resolver_at}
use Rattle.dscript_names_workspace.specs.Lists.{concat_if_all}
use Rattle.dscript_names_workspace.specs.ConfigViews.{item_tree, item_trees}
use Rattle.dscript_names_workspace.proofs.GatheredFiles.{IsGathered}
use Rattle.dscript_names_workspace.proofs.config.resolvers_in.Given as goal

abbrev pub invariant-items : goal.invariant-items
invariant-items l =
    IsGathered l.tree (concat_if_all (resolver_at l.tree) (item_trees l.items)) l.positions.items
    (concat_if_all (resolver_at l.tree) (map item_tree (drop l.item-index l.items)))
