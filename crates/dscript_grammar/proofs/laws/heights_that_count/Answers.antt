use Rattle.dscript_grammar.proofs.FileLaws.{higher}
use Rattle.dscript_grammar.proofs.laws.heights_that_count.Goals as goal

pub returns-clause-higher : goal.returns-clause-higher
returns-clause-higher c = higher
