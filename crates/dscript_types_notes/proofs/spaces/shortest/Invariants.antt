use Rattle.std.proofs.Common.{◌≡◌, length}
use Rattle.dscript_types_meaning.specs.Lookups.{shortest}
use Rattle.dscript_types_notes.specs.Found.{found_in}
use Rattle.dscript_types_notes.proofs.spaces.shortest.Given as goal

abbrev pub invariant-prefixes : goal.invariant-prefixes
invariant-prefixes l =
    shortest (found_in l.names l.space) l.parts.items l.left ≡ shortest (found_in l.names l.space) l.fn.before l.fn.written

abbrev pub decreases-prefixes : goal.decreases-prefixes
decreases-prefixes l = length l.left
