-- A text that names a path leads to it from the root.
use Rattle.std.proofs.Common.{◌≡◌, cond, Some, None, List, [], ℕ, length, ap, sym, ◌∙◌}
use Rattle.std.specs.Prelude.{option_and_then}
use Rattle.std.proofs.lemmas.Bool.{le-leb}
use Rattle.bx_tree.specs.Paths.{Atoms, Names, path_text}
use Rattle.bx_tree.specs.declared.limits.TheConstants.{MAX_PATH_BYTES}
use Rattle.bx_tree.proofs.PathTexts.{atoms_again}
use Rattle.bx_path.specs.Joining.{if_short, join_of, walk}
use Rattle.bx_path.proofs.StepsOfTexts.{walk_down}

pub named_from_root : (text : List ℕ) (path : Atoms) → Names text path → Some path ≡ join_of [] text
named_from_root text path h = sym (
    ap (λ parts. option_and_then if_short (walk [] parts)) (atoms_again text path h)
    ∙ ap (option_and_then if_short) (walk_down [] path h.is_path.atoms)
    ∙ ap (λ b. cond b (Some path) None) (le-leb (length (path_text path)) MAX_PATH_BYTES h.is_path.short))
