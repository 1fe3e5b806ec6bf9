use Rattle.std.proofs.Common.{map, rules}
use Rattle.dscript_ast.specs.ExprTree.{to_stmts}
use Rattle.dscript_ast.specs.Views.{stmt_tree}
use Rattle.dscript_names_scopes.specs.Duplicates.{block_names, stmt_names}
use Rattle.dscript_names.specs.Singles.{single}
use Rattle.dscript_names.proofs.Collected.{added_more, names_listed}
use Rattle.dscript_names.proofs.repeats.add_block.Goals as goal

pub stmts-preserved : goal.stmts-preserved
stmts-preserved c =
    added_more (λ xs. map single (block_names (to_stmts (map stmt_tree xs)))) (λ x. map single (stmt_names (stmt_tree x))) names_listed
    c.args.stmts.now c.stmts.stmt-index _ _ _ _ c.stmts.invariant c.in_ok-add_stmt.ensures (search rules) c.stmt-item.is
