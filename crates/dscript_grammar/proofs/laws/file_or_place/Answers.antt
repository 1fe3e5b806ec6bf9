use Rattle.dscript_grammar.proofs.Places.{file_or_place}
use Rattle.dscript_grammar.proofs.laws.file_or_place.Goals as goal

pub returns : goal.returns
returns c = file_or_place
