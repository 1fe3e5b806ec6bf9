use Rattle.dscript_names.proofs.Bounded.{bounded, bounded_by_bytes}
use Rattle.dscript_names.proofs.counting_laws.counts_are_bounded.Goals as goal

pub returns : goal.returns
returns c = record { by_tokens = bounded; by_bytes = bounded_by_bytes }
