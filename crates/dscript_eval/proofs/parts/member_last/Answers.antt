use Rattle.dscript_eval.proofs.parts.member_last.Goals as goal

pub returns : goal.returns
returns c = c.finish.ensures _ c.member-outcome.ensures
