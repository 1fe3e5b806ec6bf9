use Rattle.dscript_grammar.proofs.FileLaws.{reading_sound, reading_complete}
use Rattle.dscript_grammar.proofs.laws.reading_is_deriving.Goals as goal

pub returns-clause-sound : goal.returns-clause-sound
returns-clause-sound c = reading_sound

pub returns-clause-complete : goal.returns-clause-complete
returns-clause-complete c = reading_complete
