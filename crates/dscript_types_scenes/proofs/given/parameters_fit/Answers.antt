use Rattle.dscript_types_scenes.proofs.Parameters.{fit_ends, fit_goes, fit_stops}
use Rattle.dscript_types_scenes.proofs.given.parameters_fit.Goals as goal

pub returns-then-not-first_fits : goal.returns-then-not-first_fits
returns-then-not-first_fits c =
    fit_stops _ _ _ _ _ _ c.in-Some.ensures.cases.0 c.parameters.invariant c.first_fits.ensures c.if-not-first_fits.true

pub parameters-preserved : goal.parameters-preserved
parameters-preserved c =
    fit_goes _ _ _ _ _ _ c.in-Some.ensures.cases.0 c.parameters.invariant c.first_fits.ensures _ c.if-not-first_fits.false
    c.rest_of-right.ensures

pub returns : goal.returns
returns c = fit_ends _ _ _ c.in_default.ensures.cases c.parameters.invariant
