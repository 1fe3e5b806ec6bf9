use Rattle.std.proofs.lemmas.List.Filters.{dedup_is}
use Rattle.dscript_names.proofs.Distinct.{repeat_shown}
use Rattle.dscript_names.proofs.seen.has_repeat.Goals as goal

pub returns : goal.returns
returns g c =
    repeat_shown _ _ g.met.T.Ord.total g.met.T.Ord.matches_eq g.met.T.Eq.laws.symm c.args.items.items _ _
    c.sort_unstable.ensures.permutation c.sort_unstable.ensures.sorted (dedup_is _ _ _ c.dedup.ensures.filtered) _ (cc)
