use Rattle.dscript_types.proofs.Judged.{ReachGoes}
use Rattle.dscript_types.proofs.checking.reach_of.Given as goal

abbrev pub invariant-counted : goal.invariant-counted
invariant-counted l = ReachGoes l.program l.files l.file-index l.count
