use Rattle.std.proofs.Common.{◌≡◌, ◌++◌, map, take}
use Rattle.dscript_ast.specs.Views.{param_tree}
use Rattle.dscript_print.specs.Runs.{preceded}
use Rattle.dscript_print.specs.ExprKinds.{param_kinds}
use Rattle.dscript_print.specs.Written.{written}
use Rattle.dscript_print.proofs.writer.Writer.params.Given as goal

abbrev pub invariant-loop-param : goal.invariant-loop-param
invariant-loop-param l = written l.self ≡ written l.initial.self ++ preceded "," (map param_kinds (map param_tree (take l.param-index l.others)))
