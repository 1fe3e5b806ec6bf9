use Rattle.dscript_eval_meaning.proofs.OverSources.{over_sources}
use Rattle.dscript_eval_meaning.proofs.laws.meaning_over_sources.Goals as goal

pub returns : goal.returns
returns c = over_sources
