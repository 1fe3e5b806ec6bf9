use Rattle.std.proofs.Common.{◌≡◌, ◌++◌, map, length}
use Rattle.dscript_ast.specs.ExprTree.{to_stmts}
use Rattle.dscript_ast.specs.Views.{stmt_tree}
use Rattle.dscript_names_scopes.specs.Blocks.{block_locals}
use Rattle.dscript_names_binding.proofs.locals.block_locals.Given as goal

abbrev pub invariant-stmts : goal.invariant-stmts
invariant-stmts l =
    l.locals.items ++ block_locals (to_stmts (map stmt_tree l.left))
    ≡ block_locals (to_stmts (map stmt_tree l.fn.stmts))

abbrev pub decreases-stmts : goal.decreases-stmts
decreases-stmts l = length l.left
