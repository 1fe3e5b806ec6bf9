use Rattle.std.proofs.Common.{◌≡◌, ◌++◌, map, take}
use Rattle.dscript_ast.specs.FileTree.{to_marked}
use Rattle.dscript_ast.specs.Views.{marked_tree}
use Rattle.dscript_print.specs.Runs.{concat_tokens}
use Rattle.dscript_print.specs.FileKinds.{all_marked_kinds}
use Rattle.dscript_print.specs.Written.{written}
use Rattle.dscript_print.proofs.writer.Writer.+decls.Given as goal

abbrev pub invariant-all_marked-loop-one : goal.invariant-all_marked-loop-one
invariant-all_marked-loop-one l = written l.self ≡ written l.initial.self ++ concat_tokens (all_marked_kinds (to_marked (map marked_tree (take l.one-index l.marked))))
