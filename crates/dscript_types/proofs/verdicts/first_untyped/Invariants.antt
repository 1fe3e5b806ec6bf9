use Rattle.dscript_types_notes.specs.Means.{program_of}
use Rattle.dscript_types.proofs.Judged.{TypedTo}
use Rattle.dscript_types.proofs.verdicts.first_untyped.Given as goal

abbrev pub invariant-checked : goal.invariant-checked
invariant-checked l = TypedTo (program_of l.world) l.place
