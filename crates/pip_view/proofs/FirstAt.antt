-- The first file at a path, in a list of files that rises by path.
use Rattle.std.proofs.Common.{◌≡◌, ◌≢◌, ℕ, zero, suc, ◌<◌, cond, List, [], ◌∷◌, length, map, get_or, Some, None, refl, ap, sym, ◌∙◌, subst, inl, inr, arith}
use Rattle.std.specs.Prelude.{All}
use Rattle.std.specs.List.{AllByRecursion, HoldsAt}
use Rattle.std.specs.Ordering.{is_eq}
use Rattle.std.specs.declared.cmp.Ordering.TheVariants.{Less}
use Rattle.std.proofs.lemmas.Bool.{cases_Bool}
use Rattle.std.proofs.lemmas.List.{get_or-map, length-map}
use Rattle.std.proofs.lemmas.List.Elements.{recursion_from_All}
use Rattle.std.proofs.lemmas.Map.Keys.{Less-from_sorted, sorted_tail}
use Rattle.bx_tree.specs.FileInputs.{input_path}
use Rattle.bx_tree.specs.Orders.{path_cmp_matches, same_path_decides}
use Rattle.bx_tree.specs.Paths.{Atoms, path_cmp, same_path}
use Rattle.bx_tree.specs.declared.file_input.FileInput.{FileInput}
use Rattle.pip_model_types.specs.Inputs.{RiseByPath}
use Rattle.pip_view.specs.Taken.{first_at}

less_at : (files : List FileInput) (i j : ℕ) (d : FileInput) → RiseByPath files → i < j → j < length files
    → path_cmp (input_path (get_or files i d)) (input_path (get_or files j d)) ≡ Less
less_at files i j d rising less high =
    let within : j < length (map input_path files) = omega (arith, high, length-map files input_path) in
    let here : i < length files = omega (arith, less, high) in
    subst (λ (p : Atoms). path_cmp p (input_path (get_or files j d)) ≡ Less) (get_or-map input_path files i d (input_path d) here)
    (subst (λ (p : Atoms). path_cmp (get_or (map input_path files) i (input_path d)) p ≡ Less) (get_or-map input_path files j d (input_path d) high)
    (Less-from_sorted path_cmp (map input_path files) i j (input_path d) rising less within))

first_there : (path : Atoms) (files : List FileInput) (i : ℕ) (d : FileInput) → RiseByPath files → i < length files
    → input_path (get_or files i d) ≡ path → first_at path files ≡ Some (get_or files i d)
first_there path [] i d up l e = absurd (omega (arith, l))
first_there path (f ∷ fs) zero d up l e = ap (λ b. cond b (Some f) (first_at path fs)) ((same_path_decides (input_path f) path).1 e)
first_there path (f ∷ fs) (suc i) d up l e =
    let within : i < length fs = omega (arith, l) in
    let rises = less_at (f ∷ fs) 0 (suc i) d up (omega arith) l in
    let less : path_cmp (input_path f) path ≡ Less = subst (λ q. path_cmp (input_path f) q ≡ Less) e rises in
    ap (λ b. cond b (Some f) (first_at path fs)) (path_cmp_matches (input_path f) path ∙ ap is_eq less)
    ∙ first_there path fs i d (sorted_tail path_cmp (input_path f) (map input_path fs) up) within e

pub first_found : (path : Atoms) (files : List FileInput) (i : ℕ) (file : FileInput) → RiseByPath files → i < length files
    → HoldsAt (λ f. input_path f ≡ path) files i → file ≡ get_or files i file → Some file ≡ first_at path files
first_found path files i file up l at is = ap Some is ∙ sym (first_there path files i file up l (at file))

none_at : (path : Atoms) (files : List FileInput) → AllByRecursion (λ f. input_path f ≢ path) files → first_at path files ≡ None
none_at path [] h = refl
none_at path (f ∷ fs) h = elim (cases_Bool (same_path (input_path f) path)) [
  | inl e ↦ absurd (h.0 ((same_path_decides (input_path f) path).0 e))
  | inr e ↦ ap (λ b. cond b (Some f) (first_at path fs)) e ∙ none_at path fs h.1
]

pub none_found : (path : Atoms) (files : List FileInput) → All (λ f. input_path f ≢ path) files → None ≡ first_at path files
none_found path files h = sym (none_at path files (recursion_from_All (λ f. input_path f ≢ path) files h))
