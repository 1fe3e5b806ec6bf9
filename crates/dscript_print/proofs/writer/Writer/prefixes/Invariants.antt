use Rattle.std.proofs.Common.{◌≡◌, ◌++◌, map, take}
use Rattle.dscript_print.specs.ExprKinds.{prefix_kind}
use Rattle.dscript_print.specs.Written.{written}
use Rattle.dscript_print.proofs.writer.Writer.prefixes.Given as goal

abbrev pub invariant-loop-operator : goal.invariant-loop-operator
invariant-loop-operator l = written l.self ≡ written l.initial.self ++ map prefix_kind (take l.operator-index l.operators)
