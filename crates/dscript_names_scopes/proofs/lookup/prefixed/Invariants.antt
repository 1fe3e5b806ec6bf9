use Rattle.std.proofs.Common.{◌≡◌, ◌∷◌, take}
use Rattle.dscript_names_scopes.proofs.lookup.prefixed.Given as goal

abbrev pub invariant-rest : goal.invariant-rest
invariant-rest l = l.names.items ≡ l.first ∷ take l.name-index l.rest
