use Rattle.std.proofs.Common.{◌≡◌, reverse, length}
use Rattle.dscript_names_scopes.specs.Lookup.{assigned}
use Rattle.dscript_names_scopes.proofs.scopes.Scopes.assigned.Given as goal

abbrev pub invariant-outwards : goal.invariant-outwards
invariant-outwards l = assigned (reverse l.left) l.name ≡ assigned l.fn.self l.name

abbrev pub decreases-outwards : goal.decreases-outwards
decreases-outwards l = length l.left
