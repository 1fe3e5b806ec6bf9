use Rattle.std.proofs.Common.{rules}
use Rattle.std.specs.Ordering.{is_lt}
use Rattle.std.proofs.lemmas.List.Sorted.{answers_always, ranks_by}
use Rattle.bx_tree.specs.Orders.{path_cmp_total}
use Rattle.bx_tree.specs.Paths.{path_cmp}
use Rattle.bx_tree_paths.proofs.Rising.{rise_sorted_by}
use Rattle.graph_check_outputs.specs.declared.gathered.Claim.{Claim}
use Rattle.graph_check_outputs.proofs.gathered.in_claim_order.Goals as goal

pub returns-clause-sorted : goal.returns-clause-sorted
returns-clause-sorted c =
    rise_sorted_by (λ (d : Claim). d.path) c.sort_unstable_by.new.self.items
    (c.sort_unstable_by.ensures.sorted (λ (a b : Claim). is_lt (path_cmp a.path b.path)) (ranks_by path_cmp_total (λ (d : Claim). d.path))
    (answers_always _ _ _ (λ f a r g h. search rules)))
