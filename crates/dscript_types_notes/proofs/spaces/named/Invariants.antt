use Rattle.std.proofs.Common.{◌≡◌, take}
use Rattle.dscript_types_notes.proofs.spaces.named.Given as goal

abbrev pub invariant-parts : goal.invariant-parts
invariant-parts l = l.copy.items ≡ take l.part-index l.parts
