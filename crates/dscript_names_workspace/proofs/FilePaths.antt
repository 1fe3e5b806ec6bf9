-- Files of a tree by position.
use Rattle.std.proofs.Common.{◌≡◌, ◌≢◌, ◌<◌, ℕ, suc, false, List, [], ◌∷◌, Option, Some, None, length, get_or, refl, ap, sym, ◌∙◌, subst, inl, inr, arith}
use Rattle.std.specs.Prelude.{MatchOption, ◌||◌}
use Rattle.std.specs.List.{All}
use Rattle.std.specs.Option.{IfNone, IfSome}
use Rattle.std.proofs.lemmas.Bool.{cases_Bool}
use Rattle.std.proofs.lemmas.List.{length-map}
use Rattle.bx_tree.specs.Paths.{Atoms, IsPath, has_path, path_text, same_path}
use Rattle.bx_tree.specs.Trees.{paths_of}
use Rattle.bx_tree.specs.Views.{IsPositionOf, files_of}
use Rattle.bx_tree.specs.Orders.{same_path_decides}
use Rattle.bx_tree.specs.declared.tree_file.TreeFile.{TreeFile}
use Rattle.bx_tree.proofs.FileSearch as search_files
use Rattle.bx_tree.proofs.PathTexts.{same_from_text}
use Rattle.dscript_names_workspace.specs.Paths.{IsAt, is_source}

pub length-tree : (files : List TreeFile) → length (files_of files) ≡ length files
length-tree files = length-map files (λ (f : TreeFile). (f.path, f.bytes.items))

not_among : (path : Atoms) (files : List TreeFile) → All (λ (f : TreeFile). path_text f.path ≢ path_text path) files
    → has_path (paths_of (files_of files)) path ≡ false
not_among path [] h = refl
not_among path (f ∷ fs) h =
    let other : same_path f.path path ≡ false = elim (cases_Bool (same_path f.path path)) [
      | inl same ↦ absurd (h 0 f (omega arith) (ap path_text ((same_path_decides f.path path).0 same)))
      | inr differ ↦ differ
    ] in
    ap (λ b. b || has_path (paths_of (files_of fs)) path) other
    ∙ not_among path fs (λ k d l. h (suc k) d (omega arith))

-- a search by the text of a path finds its position
pub found_position : (files : List TreeFile) (path : Atoms) (found : Option ℕ) → IsPath path
    → IfSome found (λ position. IsPositionOf (path_text path) position files)
    → IfNone found (All (λ (f : TreeFile). path_text f.path ≢ path_text path) files)
    → MatchOption found (is_source (files_of files) path ≡ false) (λ position. IsAt (files_of files) position path)
found_position files path None is h none = not_among path files none
found_position [] path (Some position) is h none = absurd (omega (arith, h.0))
found_position (f ∷ fs) path (Some position) is h none =
    let at = get_or (f ∷ fs) position f in
    let inside : position < length (f ∷ fs) = h.0 in
    let same : at.path ≡ path = same_from_text at.path path at.is_path is (h.1 f) in (
      subst (λ n. position < n) (sym (length-tree (f ∷ fs))) inside,
      search_files.path_at (f ∷ fs) position f [] inside ∙ same,
    )
