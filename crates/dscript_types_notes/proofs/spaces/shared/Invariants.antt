use Rattle.std.proofs.Common.{◌≡◌, take}
use Rattle.dscript_types_notes.proofs.spaces.shared.Given as goal

abbrev pub invariant-texts : goal.invariant-texts
invariant-texts l = l.copy.items ≡ take l.text-index l.texts
