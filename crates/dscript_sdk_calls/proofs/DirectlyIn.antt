-- A path below a directory is directly in it where its text has no `/` after the directory's prefix.
use Rattle.std.proofs.Common.{append_assoc, ◌≡◌, ◌≢◌, ℕ, ◌≤◌, nat_eq, Bool, true, false, not, ◌||◌, IsTrue, List, [], ◌∷◌, ◌++◌, length, length-append, drop, codes, refl, ap, sym, ◌∙◌, subst, inl, inr, arith}
use Rattle.std.specs.List.{AllByRecursion, join_with_byte, list_any}
use Rattle.std.specs.Option.{option_map_or}
use Rattle.std.proofs.Math.Seq.{drop-append_seam}
use Rattle.std.proofs.lemmas.Bool.{cases_eq, false≢true, ne_eqb}
use Rattle.bx_tree.specs.Paths.{Atoms, IsAtom, IsPath, is_atom_byte, path_text}
use Rattle.bx_tree.proofs.PathTexts.{join-append}
use Rattle.bx_tree.specs.Below.{is_below, is_directly_in, is_one_atom, strip_dir}
use Rattle.bx_tree.proofs.BelowPaths.{below_decides, strip_dir-append}
use Rattle.bx_tree.specs.Ranges.{prefix_below}

text_after : (dir : Atoms) (atom : List ℕ) (more : Atoms) → path_text (dir ++ atom ∷ more) ≡ prefix_below dir ++ join_with_byte 47 (atom ∷ more)
text_after [] atom more = refl
text_after (d ∷ ds) atom more =
    join-append d ds atom more ∙ sym (append_assoc (path_text (d ∷ ds)) (codes "/") (join_with_byte 47 (atom ∷ more)))

atoms_after : (dir rest : Atoms) → AllByRecursion IsAtom (dir ++ rest) → AllByRecursion IsAtom rest
atoms_after [] rest h = h
atoms_after (d ∷ ds) rest h = atoms_after ds rest h.1

a_slash : (before after : List ℕ) → list_any (λ b. nat_eq b 47) (before ++ 47 ∷ after) ≡ true
a_slash [] after = refl
a_slash (b ∷ bs) after = ap (λ found. nat_eq b 47 || found) (a_slash bs after) ∙ true_last (nat_eq b 47)
  where
    true_last : (b : Bool) → (b || true) ≡ true
    true_last true = refl
    true_last false = refl

no_slash_byte : (b : ℕ) → IsTrue (is_atom_byte b) → nat_eq b 47 ≡ false
no_slash_byte b h = elim (cases_eq b 47) [
  | inl e ↦ absurd (false≢true (subst (λ x. IsTrue (is_atom_byte x)) e h))
  | inr n ↦ ne_eqb b 47 n
]

no_slash : (atom : List ℕ) → AllByRecursion (λ b. IsTrue (is_atom_byte b)) atom → list_any (λ b. nat_eq b 47) atom ≡ false
no_slash [] h = refl
no_slash (b ∷ bs) h = ap (λ found. found || list_any (λ b. nat_eq b 47) bs) (no_slash_byte b h.0) ∙ no_slash bs h.1

by_atoms : (atom : List ℕ) (more : Atoms) → IsAtom atom
    → not (list_any (λ b. nat_eq b 47) (join_with_byte 47 (atom ∷ more))) ≡ is_one_atom (atom ∷ more)
by_atoms atom [] h = ap not (no_slash atom h.bytes)
by_atoms atom (b ∷ bs) h = ap not (a_slash atom (join_with_byte 47 (b ∷ bs)))

from_rest : (dir path rest : Atoms) → IsPath path → rest ≢ [] → path ≡ dir ++ rest
    → not (list_any (λ b. nat_eq b 47) (drop (length (prefix_below dir)) (path_text path))) ≡ is_directly_in path dir
from_rest dir path [] h some is = absurd (some refl)
from_rest dir path (atom ∷ more) h some is =
    let text : drop (length (prefix_below dir)) (path_text path) ≡ join_with_byte 47 (atom ∷ more) =
    ap (λ p. drop (length (prefix_below dir)) (path_text p)) is ∙ ap (drop (length (prefix_below dir))) (text_after dir atom more)
    ∙ drop-append_seam (prefix_below dir) (join_with_byte 47 (atom ∷ more)) in
    let atoms = atoms_after dir (atom ∷ more) (subst (AllByRecursion IsAtom) is h.atoms) in
    ap (λ t. not (list_any (λ b. nat_eq b 47) t)) text ∙ by_atoms atom more atoms.0
    ∙ sym (ap (λ o. option_map_or is_one_atom o false) (ap (strip_dir dir) is ∙ strip_dir-append dir (atom ∷ more)))

pub directly_in : (dir path : Atoms) → IsPath path → is_below path dir ≡ true
    → not (list_any (λ b. nat_eq b 47) (drop (length (prefix_below dir)) (path_text path))) ≡ is_directly_in path dir
directly_in dir path h below = let under = (below_decides path dir).0 below in from_rest dir path under.0 h under.1 under.2

prefix_of_rest : (dir path rest : Atoms) → rest ≢ [] → path ≡ dir ++ rest → length (prefix_below dir) ≤ length (path_text path)
prefix_of_rest dir path [] some is = absurd (some refl)
prefix_of_rest dir path (atom ∷ more) some is =
    omega (
      arith,
      ap (λ p. length (path_text p)) is ∙ ap length (text_after dir atom more),
      length-append (prefix_below dir) (join_with_byte 47 (atom ∷ more)),
    )

pub prefix_fits : (dir path : Atoms) → is_below path dir ≡ true → length (prefix_below dir) ≤ length (path_text path)
prefix_fits dir path below = let under = (below_decides path dir).0 below in prefix_of_rest dir path under.0 under.1 under.2
