use Rattle.std.proofs.Common.{◌≡◌, ◌++◌, map, take}
use Rattle.dscript_ast.specs.Views.{import_tree}
use Rattle.dscript_print.specs.Runs.{preceded}
use Rattle.dscript_print.specs.FileKinds.{import_kinds}
use Rattle.dscript_print.specs.Written.{written}
use Rattle.dscript_print.proofs.writer.Writer.imported.Given as goal

abbrev pub invariant-loop-import : goal.invariant-loop-import
invariant-loop-import l = written l.self ≡ written l.initial.self ++ preceded "," (map import_kinds (map import_tree (take l.import-index l.others)))
