use Rattle.std.proofs.Common.{length}
use Rattle.dscript_types_data.specs.Views.{IsFew}
use Rattle.dscript_types_data.proofs.Few.{AllGo}
use Rattle.dscript_types_data.proofs.unions.joined_all.Given as goal

abbrev pub invariant-types : goal.invariant-types
invariant-types l = IsFew l.answer × AllGo l.left l.answer l.types

abbrev pub decreases-types : goal.decreases-types
decreases-types l = length l.left
