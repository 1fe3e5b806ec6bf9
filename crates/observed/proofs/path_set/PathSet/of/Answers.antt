use Rattle.std.proofs.lemmas.List.Filters.{dedup_is}
use Rattle.std.proofs.lemmas.List.Kept.{Contains-dedup, Contains-from_dedup, IsStrictlySortedBy-dedup}
use Rattle.std.proofs.lemmas.List.Sorted.{Contains-permutation, IsPermutation-sym}
use Rattle.observed.specs.Asks.{same_ask}
use Rattle.observed.specs.Orders.{ask_cmp_total, ask_cmp_matches, same_ask_equiv, same_ask_is}
use Rattle.observed.proofs.OneSet.{only_set}
use Rattle.observed.proofs.path_set.PathSet.of.Goals as goal

pub invariant_of-result : goal.invariant_of-result
invariant_of-result c =
    let is = dedup_is _ _ _ c.dedup.ensures.filtered in
    rw is (IsStrictlySortedBy-dedup ask_cmp_total ask_cmp_matches _ c.sort_unstable.ensures.sorted)

pub returns : goal.returns
returns c =
    let is = dedup_is _ _ _ c.dedup.ensures.filtered in
    let moved = c.sort_unstable.ensures.permutation in
    only_set _ _ (record {
      rising = rw is (IsStrictlySortedBy-dedup ask_cmp_total ask_cmp_matches _ c.sort_unstable.ensures.sorted);
      members = λ q. (
        (λ h. rw is (Contains-dedup same_ask_equiv same_ask_is _ q (Contains-permutation _ _ q moved h))),
        (λ h. Contains-permutation _ _ q (IsPermutation-sym _ _ moved) (Contains-from_dedup same_ask _ q (rw is at h))),
      );
    })
