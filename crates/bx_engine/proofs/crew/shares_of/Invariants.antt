use Rattle.std.proofs.Common.{◌≡◌, ◌+◌, length}
use Rattle.std.specs.Vec.Iter.{into_iter_items}
use Rattle.bx_engine.proofs.crew.shares_of.Given as goal

abbrev pub invariant-crew : goal.invariant-crew
invariant-crew g l =
    (goal.iterator-crew g).can_next l.worker-iterator
    × (goal.iterator-crew g).is_finite l.worker-iterator
    × (length l.shares.items + length (into_iter_items l.worker-iterator) ≡ length l.fn.crew.items)
