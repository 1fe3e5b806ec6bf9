use Rattle.dscript_eval_exprs.proofs.names.function_value.Goals as goal

pub returns : goal.returns
returns c = c.finish.ensures _ c.function_at-outcome.ensures
