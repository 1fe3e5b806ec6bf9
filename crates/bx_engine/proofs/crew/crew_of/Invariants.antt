use Rattle.std.proofs.Common.{◌≡◌, ◌+◌, length}
use Rattle.std.specs.Prelude.{All}
use Rattle.std.specs.Vec.Iter.{into_iter_items}
use Rattle.bx_engine.specs.Crews.{IsFresh}
use Rattle.bx_engine.proofs.crew.crew_of.Given as goal

abbrev pub invariant-shares : goal.invariant-shares
invariant-shares g l =
    (goal.iterator-shares g).can_next l.share-iterator
    × (goal.iterator-shares g).is_finite l.share-iterator
    × (length l.crew.items + length (into_iter_items l.share-iterator) ≡ length l.fn.shares.items)
    × All (IsFresh l.cached (g.K.Keeper.bound l.keeper)) l.crew.items
