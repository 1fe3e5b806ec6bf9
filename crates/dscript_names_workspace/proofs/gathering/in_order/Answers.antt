use Rattle.dscript_names_workspace.proofs.ListedFiles.{in_tree_rising, places_same}
use Rattle.dscript_names_workspace.proofs.gathering.in_order.Goals as goal

pub returns : goal.returns
returns c = record {
  places = places_same c.args.tree.now c.args.positions.items c.rising.result.items c.requires c.rising.ensures.same;
  order =
      in_tree_rising c.args.tree.now c.args.positions.items c.rising.result.items c.files.ensures.tree c.requires
      c.rising.ensures.rises c.rising.ensures.same;
}
