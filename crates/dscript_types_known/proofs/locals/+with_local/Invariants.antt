use Rattle.dscript_types_known.proofs.locals.+with_local.Given as goal

abbrev pub decreases-with_local : goal.decreases-with_local
decreases-with_local l = l.number
