use Rattle.std.proofs.Common.{◌++◌, map, ap, ◌∙◌}
use Rattle.dscript_ast.specs.ExprTree.{to_stmts}
use Rattle.dscript_ast.specs.Views.{stmt_tree}
use Rattle.dscript_names_scopes.specs.Duplicates.{block_names}
use Rattle.dscript_names.specs.Singles.{single}
use Rattle.dscript_names.proofs.SeenNames.{looked}
use Rattle.dscript_names.proofs.repeats.Repeats.block.Goals as goal

pub returns : goal.returns
returns c =
    looked c.look.result c.args.self.now c.look.new.self _ (block_names (to_stmts (map stmt_tree c.args.stmts.now))) (c.in_ok-add_block.ensures ∙ ap (λ xs. xs ++ map single (block_names (to_stmts (map stmt_tree c.args.stmts.now)))) c.new-names.ensures.items) c.look.ensures
