use Rattle.dscript_names.proofs.NumberedPrograms.{consecutive, from_zero}
use Rattle.dscript_names.proofs.laws.locals_are_consecutive.Goals as goal

pub returns : goal.returns
returns c = record { one_run = consecutive; from_zero = from_zero }
