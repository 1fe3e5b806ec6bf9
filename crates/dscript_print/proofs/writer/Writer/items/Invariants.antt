use Rattle.std.proofs.Common.{◌≡◌, ◌++◌, map, take}
use Rattle.dscript_ast.specs.Views.{item_tree}
use Rattle.dscript_print.specs.Runs.{concat_tokens}
use Rattle.dscript_print.specs.FileKinds.{item_kinds}
use Rattle.dscript_print.specs.Written.{written}
use Rattle.dscript_print.proofs.writer.Writer.items.Given as goal

abbrev pub invariant-loop-item : goal.invariant-loop-item
invariant-loop-item l = written l.self ≡ written l.initial.self ++ concat_tokens (map item_kinds (map item_tree (take l.item-index l.items)))
