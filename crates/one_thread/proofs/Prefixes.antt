-- Paths below paths.
use Rattle.std.proofs.Common.{◌≡◌, ◌≢◌, List, [], ◌∷◌, ◌++◌, refl, ap, sym, ◌∙◌, append_assoc}
use Rattle.bx_tree.specs.Paths.{Atoms, IsBelow}

not_empty : (rest more : Atoms) → more ≢ [] → rest ++ more ≡ [] → ⊥
not_empty [] more some e = some e
not_empty (a ∷ as') more some e = cc

-- what lies below a path lies below all above it
pub below_above : (p q d : Atoms) → IsBelow p q → IsBelow q d → IsBelow p d
below_above p q d h k = (
  k.0 ++ h.0,
  not_empty k.0 h.0 h.1,
  h.2 ∙ ap (λ x. x ++ h.0) k.2 ∙ append_assoc d k.0 h.0,
)

-- two paths, of which each has something below it that is one path
pub data Related (o q : Atoms) : Type 0 where
  Below : IsBelow o q → Related o q
  Above : IsBelow q o → Related o q
  Same : o ≡ q → Related o q

some_atom : {X : Type 0} (x : X) (xs : List X) → x ∷ xs ≡ [] → ⊥
some_atom x xs e = cc

related : (o q r s : Atoms) → o ++ r ≡ q ++ s → Related o q
related [] [] r s e = Same refl
related [] (b ∷ q) r s e = Above (b ∷ q, some_atom b q, refl)
related (a ∷ o) [] r s e = Below (a ∷ o, some_atom a o, refl)
related (a ∷ o) (b ∷ q) r s e =
    let heads : a ≡ b = cc in let tails : o ++ r ≡ q ++ s = cc in
    elim (related o q r s tails) [
      | Below h ↦ Below (h.0, h.1, ap (λ x. x ∷ o) heads ∙ ap (λ xs. b ∷ xs) h.2)
      | Above h ↦ Above (h.0, h.1, ap (λ x. x ∷ q) (sym heads) ∙ ap (λ xs. a ∷ xs) h.2)
      | Same h ↦ Same (ap (λ x. x ∷ o) heads ∙ ap (λ xs. b ∷ xs) h)
    ]

-- two paths above one path
pub both_above : (p o q : Atoms) → IsBelow p o → IsBelow p q → Related o q
both_above p o q h k = related o q h.0 k.0 (sym h.2 ∙ k.2)
