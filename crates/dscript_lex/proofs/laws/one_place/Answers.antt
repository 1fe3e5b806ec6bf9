use Rattle.dscript_lex.proofs.OneReading.{one_place as law}
use Rattle.dscript_lex.proofs.laws.one_place.Goals as goal

pub returns : goal.returns
returns c = law
