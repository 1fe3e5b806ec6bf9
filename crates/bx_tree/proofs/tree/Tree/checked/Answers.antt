use Rattle.std.proofs.Common.{List, sym, subst, ◌∙◌}
use Rattle.std.proofs.lemmas.Bool.{false≢true}
use Rattle.std.proofs.lemmas.List.Sorted.{IsPermutation-map}
use Rattle.bx_tree.specs.Trees.{IsTree}
use Rattle.bx_tree.specs.Views.{file_of, files_of}
use Rattle.bx_tree.specs.declared.tree_file.TreeFile.{TreeFile}
use Rattle.bx_tree.proofs.TreeCheck.{tree_from_some}
use Rattle.bx_tree.proofs.tree.Tree.checked.Goals as goal

pub returns-then-is_tree : goal.returns-then-is_tree
returns-then-is_tree c = (
  IsPermutation-map file_of _ _ c.by_path-files.ensures.same,
  subst (λ (fs : List TreeFile). IsTree (files_of fs)) c.as_slice.ensures.value (c.is_tree.ensures.0 c.if-is_tree.true),
)

pub returns-else-is_tree : goal.returns-else-is_tree
returns-else-is_tree c tree moved is =
    false≢true (sym c.if-is_tree.false ∙ c.is_tree.ensures.1
    (subst (λ (fs : List TreeFile). IsTree (files_of fs)) (sym c.as_slice.ensures.value)
    (tree_from_some c.args.files.items c.by_path-files.result.items tree c.by_path-files.ensures.same c.by_path-files.ensures.sorted moved is)))
