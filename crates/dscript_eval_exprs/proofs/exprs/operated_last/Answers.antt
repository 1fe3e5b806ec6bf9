use Rattle.dscript_eval_exprs.proofs.exprs.operated_last.Goals as goal

pub returns : goal.returns
returns c = c.finish.ensures _ c.operate-outcome.ensures
