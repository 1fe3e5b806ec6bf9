use Rattle.dscript_types.proofs.Seeing.{NewGoes}
use Rattle.dscript_types.proofs.visits.Visits.new.Given as goal

abbrev pub invariant-bound : goal.invariant-bound
invariant-bound l = NewGoes l.program l.bound l.file-index l.files.items
