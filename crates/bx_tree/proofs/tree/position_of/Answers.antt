use Rattle.std.proofs.Common.{rules}
use Rattle.std.specs.Cmp.Lexicographic.{slice_cmp}
use Rattle.std.specs.Ordering.{nat_cmp}
use Rattle.std.proofs.lemmas.Fn.{always_returns_same}
use Rattle.bx_tree.specs.Paths.{path_text}
use Rattle.bx_tree.specs.declared.tree_file.TreeFile.{TreeFile}
use Rattle.bx_tree.proofs.FileSearch.{position_from_search}
use Rattle.bx_tree.proofs.tree.position_of.Goals as goal

pub returns-clause-found : goal.returns-clause-found
returns-clause-found c = rw c.ok.ensures.value
    (position_from_search c.args.files.now c.args.text.now _ c.requires c.binary_search_by.ensures.bound
    (c.binary_search_by.ensures.position (λ (f : TreeFile). slice_cmp nat_cmp (path_text f.path) c.args.text.now) (always_returns_same _ _ _ (λ a r g h. search rules)))).0

pub returns-clause-none : goal.returns-clause-none
returns-clause-none c = rw c.ok.ensures.value
    (position_from_search c.args.files.now c.args.text.now _ c.requires c.binary_search_by.ensures.bound
    (c.binary_search_by.ensures.position (λ (f : TreeFile). slice_cmp nat_cmp (path_text f.path) c.args.text.now) (always_returns_same _ _ _ (λ a r g h. search rules)))).1
