use Rattle.std.proofs.Common.{map, rules}
use Rattle.dscript_ast.specs.FileTree.{to_marked}
use Rattle.dscript_ast.specs.Views.{marked_tree}
use Rattle.dscript_names_scopes.specs.Declarations.{all_declared, declared_by}
use Rattle.dscript_names.proofs.Collected.{added_more, marked_listed}
use Rattle.dscript_names.proofs.collecting.+decls.Goals as goal

pub add_all-decls-preserved : goal.add_all-decls-preserved
add_all-decls-preserved t c =
    added_more (λ xs. all_declared c.args.around.now (to_marked (map marked_tree xs))) (λ x. declared_by c.args.around.now (marked_tree x))
    (marked_listed c.args.around.now)
    c.args.marked.now c.decls.one-index _ _ _ _ c.decls.invariant c.in_ok-add_marked.ensures (search rules) c.one-item.is
