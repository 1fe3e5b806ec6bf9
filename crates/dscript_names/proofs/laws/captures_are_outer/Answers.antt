use Rattle.dscript_names.proofs.NumberedPrograms.{outer}
use Rattle.dscript_names.proofs.laws.captures_are_outer.Goals as goal

pub returns : goal.returns
returns c = outer
