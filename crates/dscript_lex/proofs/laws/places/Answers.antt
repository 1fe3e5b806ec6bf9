use Rattle.dscript_lex.proofs.TokenPlaces.{places as law}
use Rattle.dscript_lex.proofs.laws.places.Goals as goal

pub returns : goal.returns
returns c = law
