use Rattle.dscript_types_known.proofs.Opening.{CountGoes}
use Rattle.dscript_types_known.proofs.table.count_decls.Given as goal

abbrev pub invariant-counted : goal.invariant-counted
invariant-counted l = CountGoes l.program l.files l.file-index l.count
