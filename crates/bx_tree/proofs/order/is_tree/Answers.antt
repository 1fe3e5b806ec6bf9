use Rattle.std.proofs.Common.{◌∷◌, ◌++◌, [], take, sym, subst, ◌∙◌}
use Rattle.std.proofs.lemmas.Bool.{false≢true}
use Rattle.bx_tree.specs.Trees.{IsTree}
use Rattle.bx_tree.specs.Views.{file_of, files_of}
use Rattle.bx_tree.specs.declared.tree_file.TreeFile.{TreeFile}
use Rattle.bx_tree.proofs.TreeCheck.{prefix_files, one_more}
use Rattle.bx_tree.proofs.TreeGrowth.{no_files}
use Rattle.bx_tree.proofs.order.is_tree.Goals as goal

pub files-init : goal.files-init
files-init c = no_files

pub returns-then-not-may_follow : goal.returns-then-not-may_follow
returns-then-not-may_follow c = (
  λ e. absurd (false≢true e),
  λ t. absurd (false≢true (sym c.if-not-may_follow.true ∙ c.may_follow.ensures.1
      (subst (λ (f : TreeFile). IsTree (files_of (take c.files.count c.args.files.now) ++ file_of f ∷ [])) (sym c.index-files-count.is)
      (subst IsTree (one_more c.args.files.now c.files.count c.index-files-count.result c.files-test.true) (prefix_files c.args.files.now _ t))))),
)

pub files-preserved : goal.files-preserved
files-preserved c =
    subst IsTree (sym (one_more c.args.files.now c.files.count c.index-files-count.result c.files-test.true))
    (subst (λ (f : TreeFile). IsTree (files_of (take c.files.count c.args.files.now) ++ file_of f ∷ [])) c.index-files-count.is
    (c.may_follow.ensures.0 c.if-not-may_follow.false))
