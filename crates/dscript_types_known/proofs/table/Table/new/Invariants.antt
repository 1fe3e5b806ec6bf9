use Rattle.dscript_types_known.proofs.Opening.{OpenGoes}
use Rattle.dscript_types_known.proofs.table.Table.new.Given as goal

abbrev pub invariant-bound : goal.invariant-bound
invariant-bound l = OpenGoes l.program l.bound l.file-index l.files.items
