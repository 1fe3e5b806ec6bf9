use Rattle.std.proofs.Common.{List, [], sym, subst}
use Rattle.std.specs.List.{IsDistinct}
use Rattle.bx_tree.specs.Paths.{same_path}
use Rattle.bx_tree.specs.Trees.{paths_of}
use Rattle.bx_tree.specs.Views.{files_of}
use Rattle.bx_tree.specs.declared.tree_file.TreeFile.{TreeFile}
use Rattle.tests_pips.proofs.tests.files_make_a_tree.Goals as goal

none_alike : IsDistinct same_path []
unfolding IsDistinct
none_alike = tt

pub of-tree-requires-clause-distinct : goal.of-tree-requires-clause-distinct
of-tree-requires-clause-distinct g c =
    subst (λ (fs : List TreeFile). IsDistinct same_path (paths_of (files_of fs))) (sym c.new-files.ensures.items) none_alike
