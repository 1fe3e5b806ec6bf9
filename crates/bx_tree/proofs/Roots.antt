-- The root is the path whose text is `.`.
use Rattle.std.proofs.Common.{◌≡◌, ℕ, Bool, List, [], ◌∷◌, refl, ap, sym, ◌∙◌, inl, inr}
use Rattle.std.specs.Prelude.{◌↔◌, IsTrue, codes}
use Rattle.std.specs.Str.{bytes_eq}
use Rattle.std.proofs.lemmas.Bool.{cases_Bool}
use Rattle.std.proofs.lemmas.Slice.Eq.{bytes_eq-Decides}
use Rattle.bx_tree.specs.Paths.{Atoms, IsPath, is_root, path_text}
use Rattle.bx_tree.proofs.PathTexts.{root_from_text}

pub root_decides : (path : Atoms) (text : List ℕ) (r : Bool) → IsPath path → text ≡ path_text path → r ≡ bytes_eq text (codes ".")
    → IsTrue r ↔ (path ≡ [])
root_decides path text r k e is = (
  λ t. root_from_text path k (sym e ∙ (bytes_eq-Decides text (codes ".")).0 (sym is ∙ t)),
  λ none. is ∙ (bytes_eq-Decides text (codes ".")).1 (e ∙ ap path_text none),
)

pub root_is : (path : Atoms) (r : Bool) → (IsTrue r ↔ (path ≡ [])) → r ≡ is_root path
root_is [] r h = h.1 refl
root_is (atom ∷ rest) r h = elim (cases_Bool r) [
  | inl so ↦ let clash : atom ∷ rest ≡ [] = h.0 so in cc
  | inr not_so ↦ not_so
]
