use Rattle.std.specs.Vec.Iter.{into_iter_items}
use Rattle.graph_texts.proofs.Linked.{LinkedSoFar}
use Rattle.graph_texts.proofs.linking.link.Given as goal

abbrev pub invariant-rows : goal.invariant-rows
invariant-rows l =
    (goal.iterator-rows).can_next l.row-iterator
    × (goal.iterator-rows).is_finite l.row-iterator
    × LinkedSoFar l.fn.rows.items (into_iter_items l.row-iterator) l.pips
