use Rattle.dscript_types_rows.proofs.Arguments.{next_fails, next_passes}
use Rattle.dscript_types_rows.proofs.signatures.arguments_fit.Goals as goal

pub returns-then-not-fits : goal.returns-then-not-fits
returns-then-not-fits c =
    next_fails _ _ _ _ _ c.in-Some.ensures.cases.0 c.arguments.invariant _ _ c.in-Some-split_first.ensures.cases.0 _ c.fits.ensures
    c.if-not-fits.true

pub arguments-preserved : goal.arguments-preserved
arguments-preserved c =
    next_passes _ _ _ _ _ c.in-Some.ensures.cases.0 c.arguments.invariant _ _ c.in-Some-split_first.ensures.cases.0 _ c.fits.ensures
    c.if-not-fits.false
