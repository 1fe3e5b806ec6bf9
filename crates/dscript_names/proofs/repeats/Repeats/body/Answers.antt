use Rattle.std.proofs.Common.{◌++◌, map, ap, sym, ◌∙◌}
use Rattle.std.proofs.lemmas.List.{map-append}
use Rattle.dscript_ast.specs.ExprTree.{to_stmts}
use Rattle.dscript_ast.specs.Views.{head_tree, stmt_tree}
use Rattle.dscript_names_scopes.specs.Duplicates.{block_names, head_names}
use Rattle.dscript_names.specs.Singles.{single}
use Rattle.dscript_names.proofs.SeenNames.{looked}
use Rattle.dscript_names.proofs.repeats.Repeats.body.Goals as goal

pub returns : goal.returns
returns c =
    looked c.look.result c.args.self.now c.look.new.self _ (head_names (head_tree c.args.head.now) ++ block_names (to_stmts (map stmt_tree c.args.stmts.now))) (c.in_ok-add_block.ensures ∙ ap (λ xs. xs ++ map single (block_names (to_stmts (map stmt_tree c.args.stmts.now)))) (c.in_ok-add_head.ensures ∙ ap (λ xs. xs ++ map single (head_names (head_tree c.args.head.now))) c.new-names.ensures.items) ∙ sym (map-append single (head_names (head_tree c.args.head.now)) (block_names (to_stmts (map stmt_tree c.args.stmts.now))))) c.look.ensures
