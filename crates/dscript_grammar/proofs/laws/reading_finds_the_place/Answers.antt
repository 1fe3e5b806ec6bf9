use Rattle.dscript_grammar.proofs.Places.{reading_refuses, refusal_is_read}
use Rattle.dscript_grammar.proofs.laws.reading_finds_the_place.Goals as goal

pub returns-clause-refuses : goal.returns-clause-refuses
returns-clause-refuses c = reading_refuses

pub returns-clause-finds : goal.returns-clause-finds
returns-clause-finds c = refusal_is_read
