use Rattle.dscript_grammar.proofs.Places.{items_prefix_free}
use Rattle.dscript_grammar.proofs.laws.items_are_prefix_free.Goals as goal

pub returns : goal.returns
returns c = items_prefix_free
