use Rattle.std.proofs.Common.{rules, subst, sym, ◌∙◌, ◌≡◌, ◌≢◌, ℕ, List, false}
use Rattle.std.specs.Prelude.{MatchOption, All}
use Rattle.std.specs.Option.{IfNone, IfSome}
use Rattle.std.specs.Result.{result_ok}
use Rattle.std.specs.Cmp.Lexicographic.{slice_cmp}
use Rattle.std.specs.Ordering.{nat_cmp}
use Rattle.std.proofs.lemmas.Fn.{always_returns_same}
use Rattle.bx_tree.specs.Paths.{path_text}
use Rattle.bx_tree.specs.Trees.{Files, IsTree}
use Rattle.bx_tree.specs.Views.{IsPositionOf}
use Rattle.bx_tree.specs.declared.tree_file.TreeFile.{TreeFile}
use Rattle.bx_tree.proofs.FileSearch.{position_from_search}
use Rattle.dscript_names_workspace.specs.Paths.{IsAt, is_source}
use Rattle.dscript_names_workspace.proofs.FilePaths.{found_position}
use Rattle.dscript_names_workspace.proofs.paths.position_of.Goals as goal

pub returns : goal.returns
returns c =
    let files = c.files.result.now in
    let text = c.as_bytes-text.result.now in
    let path = c.args.path.now in
    let found = result_ok c.binary_search_by.result in
    let known = position_from_search files text c.binary_search_by.result
    (subst IsTree (sym c.files.ensures.files) c.files.ensures.tree) c.binary_search_by.ensures.bound
    (c.binary_search_by.ensures.position (λ (f : TreeFile). slice_cmp nat_cmp (path_text f.path) text)
    (always_returns_same _ _ _ (λ a r g h. search rules))) in
    let text_is : text ≡ path_text path = c.as_bytes-text.ensures.value ∙ c.text.ensures.text in
    let answer = found_position files path found c.text.ensures.is_path
    (subst (λ (t : List ℕ). IfSome found (λ position. IsPositionOf t position files)) text_is known.0)
    (subst (λ (t : List ℕ). IfNone found (All (λ (f : TreeFile). path_text f.path ≢ t) files)) text_is known.1) in
    rw c.ok.ensures.value
    (subst (λ (fs : Files). MatchOption found (is_source fs path ≡ false) (λ position. IsAt fs position path))
    c.files.ensures.files answer)
