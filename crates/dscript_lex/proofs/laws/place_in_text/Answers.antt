use Rattle.dscript_lex.proofs.TokenPlaces.{place_in_text as law}
use Rattle.dscript_lex.proofs.laws.place_in_text.Goals as goal

pub returns : goal.returns
returns c = law
