use Rattle.dscript_types_values.proofs.Fitting.{fits_has}
use Rattle.dscript_types_values.proofs.laws.fitting_values_have_types.Goals as goal

pub returns : goal.returns
returns c = fits_has
