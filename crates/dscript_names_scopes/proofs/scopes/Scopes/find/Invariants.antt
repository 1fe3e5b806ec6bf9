use Rattle.std.proofs.Common.{◌≡◌, reverse, length}
use Rattle.dscript_names_scopes.specs.Lookup.{in_blocks}
use Rattle.dscript_names_scopes.proofs.scopes.Scopes.find.Given as goal

abbrev pub invariant-outwards : goal.invariant-outwards
invariant-outwards l = in_blocks (reverse l.left) l.name ≡ in_blocks l.fn.self l.name

abbrev pub decreases-outwards : goal.decreases-outwards
decreases-outwards l = length l.left
