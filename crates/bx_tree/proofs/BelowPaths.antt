-- What lies strictly below a directory, tested by atoms.
use Rattle.std.proofs.Common.{◌≡◌, ◌≢◌, true, false, Bool, cond, List, [], ◌∷◌, ◌++◌, Option, Some, None, refl, ap, sym, ◌∙◌, ℕ}
use Rattle.std.specs.Bool.{Decides}
use Rattle.std.specs.Option.{option_and_then, option_map_or}
use Rattle.std.specs.Str.{bytes_eq}
use Rattle.std.proofs.lemmas.Bool.Decides.{same_from_decides}
use Rattle.std.proofs.lemmas.Slice.Eq.{bytes_eq-Decides}
use Rattle.bx_tree.specs.Below.{first_atom, is_below, strip_dir}
use Rattle.bx_tree.specs.Paths.{Atoms, IsBelow}

-- what is left of a path after a directory
pub strip_dir_is : (dir path rest : Atoms) → strip_dir dir path ≡ Some rest → path ≡ dir ++ rest
strip_dir_is [] path rest e = cc
strip_dir_is (d ∷ ds) [] rest e = cc
strip_dir_is (d ∷ ds) (a ∷ as') rest e = by_atom (bytes_eq d a) refl e (λ k. strip_dir_is ds as' rest k)
  where
    by_atom : (t : Bool) → bytes_eq d a ≡ t → cond t (strip_dir ds as') None ≡ Some rest → (strip_dir ds as' ≡ Some rest → as' ≡ ds ++ rest)
        → a ∷ as' ≡ d ∷ ds ++ rest
    by_atom true same e more = ap (λ x. x ∷ as') (sym ((bytes_eq-Decides d a).0 same)) ∙ ap (λ t. d ∷ t) (more e)
    by_atom false other e more = cc

-- a directory and what follows it
pub strip_dir-append : (dir rest : Atoms) → strip_dir dir (dir ++ rest) ≡ Some rest
strip_dir-append [] rest = refl
strip_dir-append (d ∷ ds) rest = ap (λ t. cond t (strip_dir ds (ds ++ rest)) None) ((bytes_eq-Decides d d).1 refl) ∙ strip_dir-append ds rest

pub below_decides : (path dir : Atoms) → Decides (is_below path dir) (IsBelow path dir)
below_decides path dir = (by_rest (strip_dir dir path) refl, there)
  where
    by_rest : (o : Option Atoms) → strip_dir dir path ≡ o → option_map_or (λ (atom : List ℕ). true) (option_and_then first_atom o) false ≡ true → IsBelow path dir
    by_rest None is e = cc
    by_rest (Some []) is e = cc
    by_rest (Some (a ∷ rest)) is e = (a ∷ rest, λ (none : a ∷ rest ≡ []). cc, strip_dir_is dir path (a ∷ rest) is)

    some : (rest : Atoms) → rest ≢ [] → option_map_or (λ (atom : List ℕ). true) (first_atom rest) false ≡ true
    some [] none = absurd (none refl)
    some (a ∷ rest) none = refl

    there : IsBelow path dir → is_below path dir ≡ true
    there h =
        ap (λ p. is_below p dir) h.2 ∙ ap (λ o. option_map_or (λ (atom : List ℕ). true) (option_and_then first_atom o) false) (strip_dir-append dir h.0)
        ∙ some h.0 h.1

pub below_is : (path dir : Atoms) (r : Bool) → Decides r (IsBelow path dir) → r ≡ is_below path dir
below_is path dir r h = same_from_decides r (is_below path dir) h (below_decides path dir)
