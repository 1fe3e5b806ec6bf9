-- A path with another last atom, by joining.
use Rattle.std.proofs.Common.{◌≡◌, ◌≢◌, ℕ, true, false, cond, List, [], ◌∷◌, ◌++◌, codes, refl, ap, sym, ◌∙◌, Some, None, subst, IsTrue}
use Rattle.std.specs.Prelude.{option_and_then}
use Rattle.std.specs.List.{AllByRecursion}
use Rattle.std.proofs.lemmas.Bool.{false≢true}
use Rattle.bx_tree.specs.Paths.{Atoms, IsAtom, is_atom_byte}
use Rattle.bx_path.specs.Joining.{if_short, join_of, parent, walk}
use Rattle.bx_tree.proofs.AtomsBelow.{split_whole}
use Rattle.bx_tree.proofs.Lists.{texts_differ}
use Rattle.bx_path.proofs.StepsOfTexts.{is_atom_true, is_atom_false, step_down}
use Rattle.dscript_sdk_members.specs.PathMembers.{with_last}

pub parent_there : (path : Atoms) → path ≢ [] → parent path ≢ None
parent_there [] some e = some refl
parent_there (a ∷ rest) some e = cc

-- ## One atom further

no_slash : (bs : List ℕ) → AllByRecursion (λ b. IsTrue (is_atom_byte b)) bs → AllByRecursion (λ b. b ≢ 47) bs
no_slash [] h = tt
no_slash (b ∷ bs) h = (λ e. false≢true (subst (λ c. is_atom_byte c ≡ true) e h.0), no_slash bs h.1)

-- an atom leads to the path with it
pub join_down : (dir : Atoms) (atom : List ℕ) → IsAtom atom → join_of dir atom ≡ if_short (dir ++ atom ∷ [])
join_down dir atom h =
    ap (λ parts. option_and_then if_short (walk dir parts)) (split_whole atom (no_slash atom h.bytes))
    ∙ ap (λ o. option_and_then if_short (option_and_then (λ next. walk next []) o))
    (step_down dir atom (texts_differ atom (codes ".") h.not_dot) (texts_differ atom (codes "..") h.not_dots) h)

pub with_last-atom : (path dir : Atoms) (atom : List ℕ) → IsAtom atom → parent path ≡ Some dir → with_last path atom ≡ join_of dir atom
with_last-atom path dir atom h e =
    ap (λ b. cond b (option_and_then (λ d. if_short (d ++ atom ∷ [])) (parent path)) None) (is_atom_true atom h)
    ∙ ap (option_and_then (λ d. if_short (d ++ atom ∷ []))) e
    ∙ sym (join_down dir atom h)

pub with_last-root : (path : Atoms) (atom : List ℕ) → IsAtom atom → parent path ≡ None → with_last path atom ≡ None
with_last-root path atom h e =
    ap (λ b. cond b (option_and_then (λ d. if_short (d ++ atom ∷ [])) (parent path)) None) (is_atom_true atom h)
    ∙ ap (option_and_then (λ d. if_short (d ++ atom ∷ []))) e

pub with_last-other : (path : Atoms) (atom : List ℕ) → (IsAtom atom → ⊥) → with_last path atom ≡ None
with_last-other path atom n =
    ap (λ b. cond b (option_and_then (λ d. if_short (d ++ atom ∷ [])) (parent path)) None) (is_atom_false atom n)
