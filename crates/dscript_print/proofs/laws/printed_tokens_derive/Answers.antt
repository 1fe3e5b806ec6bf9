use Rattle.dscript_print.proofs.Sources.{derived, written}
use Rattle.dscript_print.proofs.laws.printed_tokens_derive.Goals as goal

pub returns-clause-derive : goal.returns-clause-derive
returns-clause-derive c = derived

pub returns-clause-are_written : goal.returns-clause-are_written
returns-clause-are_written c = written
