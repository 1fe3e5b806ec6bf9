use Rattle.std.proofs.Common.{map, rules}
use Rattle.dscript_ast.specs.FileTree.{to_marked}
use Rattle.dscript_ast.specs.Views.{marked_tree}
use Rattle.dscript_names_scopes.specs.Duplicates.{all_marked_repeat, marked_repeats}
use Rattle.dscript_names.proofs.Found.{found_more, marked_listed}
use Rattle.dscript_names.proofs.repeats.Repeats.+decls.Goals as goal

pub all_marked-decls-preserved : goal.all_marked-decls-preserved
all_marked-decls-preserved t c =
    found_more (λ xs. all_marked_repeat (to_marked (map marked_tree xs))) (λ x. marked_repeats (marked_tree x)) marked_listed
    c.args.decls.now c.decls.marked-index _ _ _ _ c.decls.invariant c.in_ok-marked.ensures (search rules) c.marked-item.is
