use Rattle.std.proofs.Common.{take}
use Rattle.cache_care.specs.Digests.{AddsAll}
use Rattle.cache_care.proofs.naming.add_digests.Given as goal

abbrev pub invariant-digests : goal.invariant-digests
invariant-digests l = AddsAll l.fn.named l.named (take l.digest-index l.digests)
