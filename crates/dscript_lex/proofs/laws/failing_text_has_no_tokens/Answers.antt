use Rattle.dscript_lex.proofs.OneReading.{no_tokens as law}
use Rattle.dscript_lex.proofs.laws.failing_text_has_no_tokens.Goals as goal

pub returns : goal.returns
returns c = law
