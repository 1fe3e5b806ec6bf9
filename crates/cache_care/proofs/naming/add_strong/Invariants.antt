use Rattle.std.proofs.Common.{◌∷◌, flat_map, take}
use Rattle.cache_care.specs.Digests.{AddsAll}
use Rattle.cache_care.specs.Naming.{in_line}
use Rattle.cache_care.proofs.naming.add_strong.Given as goal

abbrev pub invariant-lines : goal.invariant-lines
invariant-lines l = AddsAll l.fn.named l.named (l.parts.weak ∷ l.parts.paths ∷ flat_map in_line (take l.line-index l.parts.lines))
