-- Paths with different texts differ.
use Rattle.std.proofs.Common.{◌≡◌, List, [], ◌∷◌, ℕ, false, ap, codes, inl, inr, refl, sym, ◌∙◌}
use Rattle.std.specs.List.{IsDistinct}
use Rattle.std.specs.Str.{bytes_eq}
use Rattle.std.proofs.lemmas.Bool.{cases_Bool, false≢true}
use Rattle.std.proofs.lemmas.Slice.Eq.{bytes_eq-Decides}
use Rattle.bx_tree.specs.Orders.{same_path_decides}
use Rattle.bx_tree.specs.Paths.{Atoms, Names, path_text, same_path}

apart : (s t : List ℕ) (p q : Atoms) → Names s p → Names t q → bytes_eq s t ≡ false → same_path p q ≡ false
apart s t p q h k e = elim (cases_Bool (same_path p q)) [
  | inr differ ↦ differ
  | inl same ↦ absurd (false≢true (sym e ∙ (bytes_eq-Decides s t).1 (h.text_is ∙ ap path_text ((same_path_decides p q).0 same) ∙ sym k.text_is)))
]

pub five_apart : (b a_c a_dash_b a a_b : Atoms) → Names (codes "b") b → Names (codes "a/c") a_c → Names (codes "a-b") a_dash_b
    → Names (codes "a") a → Names (codes "a/b") a_b → IsDistinct same_path (b ∷ a_c ∷ a_dash_b ∷ a ∷ a_b ∷ [])
unfolding IsDistinct
five_apart b a_c a_dash_b a a_b hb hac hadb ha hab = (
  (apart _ _ b a_c hb hac refl, (apart _ _ b a_dash_b hb hadb refl, (apart _ _ b a hb ha refl, (apart _ _ b a_b hb hab refl, tt)))),
  (
    (apart _ _ a_c a_dash_b hac hadb refl, (apart _ _ a_c a hac ha refl, (apart _ _ a_c a_b hac hab refl, tt))),
    ((apart _ _ a_dash_b a hadb ha refl, (apart _ _ a_dash_b a_b hadb hab refl, tt)), ((apart _ _ a a_b ha hab refl, tt), (tt, tt))),
  ),
)
