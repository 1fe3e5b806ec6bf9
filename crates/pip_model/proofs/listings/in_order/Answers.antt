use Rattle.std.proofs.Common.{rules}
use Rattle.std.specs.Ordering.{is_lt}
use Rattle.std.proofs.lemmas.List.Sorted.{answers_always, ranks_by}
use Rattle.bx_tree.specs.Orders.{path_cmp_total}
use Rattle.bx_tree.specs.Paths.{path_cmp}
use Rattle.bx_tree_paths.proofs.Rising.{rise_sorted_by}
use Rattle.pip_model.specs.Listings.{listing_path}
use Rattle.pip_model.specs.declared.listings.Listing.{Listing}
use Rattle.pip_model.proofs.listings.in_order.Goals as goal

pub returns-clause-rising : goal.returns-clause-rising
returns-clause-rising c =
    rise_sorted_by listing_path c.sort_unstable_by.new.self.items
    (c.sort_unstable_by.ensures.sorted (λ (a b : Listing). is_lt (path_cmp (listing_path a) (listing_path b))) (ranks_by path_cmp_total listing_path)
    (answers_always _ _ _ (λ f a r g h. search rules)))
