use Rattle.std.proofs.lemmas.List.Filters.{dedup_is}
use Rattle.std.proofs.lemmas.List.Kept.{Contains-dedup, Contains-from_dedup, IsStrictlySortedBy-dedup}
use Rattle.std.proofs.lemmas.List.Sorted.{Contains-permutation, IsPermutation-sym}
use Rattle.bx_tree.specs.Orders.{path_cmp_matches, path_cmp_total, same_path_decides, same_path_equiv}
use Rattle.bx_tree.specs.Paths.{same_path}
use Rattle.bundle_folder.proofs.packing.in_order.Goals as goal

pub returns-clause-rising : goal.returns-clause-rising
returns-clause-rising c =
    let is = dedup_is _ _ _ c.dedup.ensures.filtered in
    rw is (IsStrictlySortedBy-dedup path_cmp_total path_cmp_matches _ c.sort_unstable.ensures.sorted)

pub returns-clause-held : goal.returns-clause-held
returns-clause-held c path =
    let is = dedup_is _ _ _ c.dedup.ensures.filtered in
    let moved = c.sort_unstable.ensures.permutation in (
      λ h. Contains-permutation _ _ path (IsPermutation-sym _ _ moved) (Contains-from_dedup same_path _ path (rw is at h)),
      λ h. rw is (Contains-dedup same_path_equiv (λ x y. (same_path_decides x y).0) _ path (Contains-permutation _ _ path moved h)),
    )
