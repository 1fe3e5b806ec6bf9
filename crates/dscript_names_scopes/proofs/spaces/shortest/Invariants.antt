use Rattle.std.proofs.Common.{◌≡◌, ◌+◌, length}
use Rattle.dscript_names_scopes.specs.Lookup.{shortest}
use Rattle.dscript_names_scopes.specs.Spaces.{target_in}
use Rattle.dscript_names_scopes.proofs.spaces.shortest.Given as goal

abbrev pub invariant-prefixes : goal.invariant-prefixes
invariant-prefixes l =
    (shortest (target_in l.space) l.parts l.name l.left
    ≡ shortest (target_in l.space) l.fn.parts l.fn.before l.fn.names)
    × (l.parts + length l.left ≡ l.fn.parts + length l.fn.names)

abbrev pub decreases-prefixes : goal.decreases-prefixes
decreases-prefixes l = length l.left
