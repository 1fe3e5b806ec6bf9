use Rattle.std.proofs.Common.{map, take}
use Rattle.memo_format.specs.declared.entry.OutputLine.{OutputLine}
use Rattle.cache_care.specs.Digests.{AddsAll}
use Rattle.cache_care.proofs.naming.add_outputs.Given as goal

abbrev pub invariant-outputs : goal.invariant-outputs
invariant-outputs l = AddsAll l.fn.named l.named (map (λ (o : OutputLine). o.digest) (take l.output-index l.outputs))
