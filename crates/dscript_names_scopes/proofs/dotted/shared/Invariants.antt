use Rattle.std.proofs.Common.{◌≡◌, take}
use Rattle.dscript_names_scopes.proofs.dotted.shared.Given as goal

abbrev pub invariant-texts : goal.invariant-texts
invariant-texts l = l.copy.items ≡ take l.text-index l.texts
