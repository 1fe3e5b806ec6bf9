use Rattle.std.proofs.Common.{◌≡◌}
use Rattle.dscript_types_meaning.specs.Annotations.{lists_of}
use Rattle.dscript_types_notes.proofs.notes.lists_of.Given as goal

abbrev pub invariant-lists : goal.invariant-lists
invariant-lists l = lists_of l.left l.t ≡ lists_of l.fn.count l.fn.item

abbrev pub decreases-lists : goal.decreases-lists
decreases-lists l = l.left
