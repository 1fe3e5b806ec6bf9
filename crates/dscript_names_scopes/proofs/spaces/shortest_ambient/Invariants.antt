use Rattle.std.proofs.Common.{◌≡◌, ◌+◌, ℕ, List, [], length}
use Rattle.std.specs.List.{join_with_byte}
use Rattle.dscript_names_scopes.specs.Lookup.{ambient_of, shortest}
use Rattle.dscript_names_scopes.proofs.spaces.shortest_ambient.Given as goal

abbrev pub invariant-prefixes : goal.invariant-prefixes
invariant-prefixes l =
    (before : List (List ℕ)) × (l.text.items ≡ join_with_byte 46 before) × (l.parts ≡ length before)
    × (shortest ambient_of l.parts before l.left ≡ shortest ambient_of 0 [] l.fn.names)
    × (l.parts + length l.left ≡ length l.fn.names)

abbrev pub decreases-prefixes : goal.decreases-prefixes
decreases-prefixes l = length l.left
