use Rattle.dscript_lex.proofs.OneReading.{one_reading as law}
use Rattle.dscript_lex.proofs.laws.one_reading.Goals as goal

pub returns : goal.returns
returns c = law
