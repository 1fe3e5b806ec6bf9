-- Files by path, as a map has them.
use Rattle.std.proofs.Common.{◌≡◌, cond, [], ◌∷◌, Some, refl, ap, sym, ◌∙◌}
use Rattle.std.specs.BTreeMap.{is_at}
use Rattle.std.specs.Map.{lookup}
use Rattle.bx_tree.specs.Paths.{Atoms, path_cmp, same_path}
use Rattle.bx_tree.specs.Trees.{Files, file_at}
use Rattle.bx_tree.specs.Orders.{path_cmp_matches, same_path_equiv}

-- a map by path and a list of files are searched alike
pub found : (files : Files) (path : Atoms) → lookup (is_at (path_cmp path)) files ≡ file_at files path
found [] path = refl
found (f ∷ fs) path =
    ap (λ b. cond b (Some f.1) (lookup (is_at (path_cmp path)) fs)) (sym (path_cmp_matches path f.0) ∙ same_path_equiv.symm path f.0)
    ∙ ap (cond (same_path f.0 path) (Some f.1)) (found fs path)
