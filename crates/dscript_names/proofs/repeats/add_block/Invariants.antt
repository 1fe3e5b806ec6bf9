use Rattle.std.proofs.Common.{◌≡◌, ◌++◌, map, take}
use Rattle.dscript_ast.specs.ExprTree.{to_stmts}
use Rattle.dscript_ast.specs.Views.{stmt_tree}
use Rattle.dscript_names_scopes.specs.Duplicates.{block_names}
use Rattle.dscript_names.specs.Singles.{single}
use Rattle.dscript_names.proofs.repeats.add_block.Given as goal

abbrev pub invariant-stmts : goal.invariant-stmts
invariant-stmts l =
    l.names.items ≡ l.initial.names.items ++ map single (block_names (to_stmts (map stmt_tree (take l.stmt-index l.stmts))))
