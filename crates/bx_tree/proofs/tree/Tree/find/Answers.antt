use Rattle.std.proofs.Common.{refl, ap, sym, ◌∙◌, subst, Some}
use Rattle.std.proofs.lemmas.Bool.{false≢true}
use Rattle.bx_tree.specs.Trees.{IsTree, file_at, paths_of}
use Rattle.bx_tree.specs.declared.tree_file.TreeFile.{TreeFile}
use Rattle.std.specs.List.{Contains}
use Rattle.bx_tree.proofs.FileSearch.{file_found, no_file}
use Rattle.bx_tree.proofs.tree.Tree.find.Goals as goal

pub returns-in_err-position-clause-value : goal.returns-in_err-position-clause-value
returns-in_err-position-clause-value c =
    let none = rw (c.as_bytes.ensures.value, c.text.ensures.text) at c.in_err-position.ensures.none in
    rw c.from_residual.ensures
    (sym (ap (λ fs. file_at fs c.args.path.now) (sym c.files-files.ensures.files) ∙ (no_file c.files-files.result.now c.args.path.now none).0))

pub returns-in_err-position-clause-there : goal.returns-in_err-position-clause-there
returns-in_err-position-clause-there c =
    let none = rw (c.as_bytes.ensures.value, c.text.ensures.text) at c.in_err-position.ensures.none in
    rw c.from_residual.ensures (
      λ e. absurd (false≢true e),
      λ h. absurd ((no_file c.files-files.result.now c.args.path.now none).1
          (subst (λ fs. Contains (paths_of fs) c.args.path.now) (sym c.files-files.ensures.files) h)),
    )

pub returns-clause-value : goal.returns-clause-value
returns-clause-value c =
    let files = c.files-files.ensures in
    let position = rw (c.as_bytes.ensures.value, c.text.ensures.text) at c.in_ok-position.ensures.found in
    let found = file_found c.files-files.result.now c.args.path.now c.in_ok-position.position c.index-files-position.result
    (subst IsTree (sym files.files) files.tree) c.text.ensures.is_path position c.index-files-position.is in
    ap Some (c.as_slice.ensures.value ∙ ap (λ (f : TreeFile). f.bytes.items) (sym c.index-files-position.is))
    ∙ sym found.0 ∙ ap (λ fs. file_at fs c.args.path.now) files.files

pub returns-clause-there : goal.returns-clause-there
returns-clause-there c =
    let files = c.files-files.ensures in
    let position = rw (c.as_bytes.ensures.value, c.text.ensures.text) at c.in_ok-position.ensures.found in
    let found = file_found c.files-files.result.now c.args.path.now c.in_ok-position.position c.index-files-position.result
    (subst IsTree (sym files.files) files.tree) c.text.ensures.is_path position c.index-files-position.is in
    (λ _. subst (λ fs. Contains (paths_of fs) c.args.path.now) files.files found.1, λ _. refl)
