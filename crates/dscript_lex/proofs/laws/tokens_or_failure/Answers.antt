use Rattle.dscript_lex.proofs.Cutting.{ends as law}
use Rattle.dscript_lex.proofs.laws.tokens_or_failure.Goals as goal

pub returns : goal.returns
returns c = law
