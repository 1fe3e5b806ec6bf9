use Rattle.bx_tree_paths.proofs.Rising.{rise_sorted}
use Rattle.bx_tree_paths.proofs.sorted_paths.in_order.Goals as goal

pub returns-clause-rising : goal.returns-clause-rising
returns-clause-rising c =
    rise_sorted c.args.paths.items c.sort_unstable.new.self.items c.requires c.sort_unstable.ensures.permutation c.sort_unstable.ensures.sorted
