use Rattle.dscript_names_laws.proofs.WholePrograms.{whole}
use Rattle.dscript_names_laws.proofs.laws.resolved_programs_are_whole.Goals as goal

pub returns : goal.returns
returns c = whole
