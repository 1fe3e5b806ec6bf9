use Rattle.std.proofs.Common.{List, ℕ, ◌++◌, subst}
use Rattle.dscript_names_workspace.specs.Configs.{resolver_at}
use Rattle.dscript_names_workspace.specs.Lists.{concat_if_all}
use Rattle.dscript_names_workspace.specs.Paths.{paths_at}
use Rattle.dscript_names_workspace.specs.ConfigViews.{ArePlaces, item_tree, item_trees}
use Rattle.dscript_names_workspace.proofs.GatheredFiles.{gathered_next}
use Rattle.dscript_names_workspace.proofs.Positions.{at_some}
use Rattle.dscript_names_workspace.proofs.config.resolvers_in.Goals as goal

pub items-preserved : goal.items-preserved
items-preserved c =
    let files = c.args.tree.now in
    let f = resolver_at files in
    let before = c.items.positions.items in
    let given = at_some c.in_ok-more.field-0 c.in-Some.more _ _ c.in-Some.is c.in_ok-more.ensures in
    gathered_next files f item_tree c.args.items.now c.items.item-index c.item-item.result
    (concat_if_all f (item_trees c.args.items.now)) before c.in-Some.more.items c.in_ok-positions.positions.items
    c.items-test.true c.item-item.is c.items.invariant given
    (subst (λ (qs : List ℕ). ArePlaces files (paths_at files before ++ paths_at files qs) c.in_ok-positions.positions.items)
    c.as_slice.ensures.value c.in_ok-positions.ensures)
