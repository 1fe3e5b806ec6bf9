use Rattle.dscript_eval.proofs.parts.index_value.Goals as goal

pub returns : goal.returns
returns c = c.finish.ensures _ c.index-outcome.ensures
