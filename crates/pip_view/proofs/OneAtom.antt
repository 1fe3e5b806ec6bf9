-- Whether just one atom of a path is left after a directory, by the bytes that are left of its text.
use Rattle.std.proofs.Common.{◌≡◌, ℕ, Bool, true, false, not, ◌||◌, nat_eq, cond, List, [], ◌∷◌, Option, Some, None, refl, ap, sym, ◌∙◌}
use Rattle.std.proofs.lemmas.Bool.{false≢true}
use Rattle.std.specs.List.{list_any, onto_first, slice_split}
use Rattle.std.specs.Option.{option_and_then, option_map_or}
use Rattle.bx_tree.specs.Below.{first_atom, is_below, is_directly_in, is_one_atom, strip_dir}
use Rattle.bx_tree.specs.Paths.{Atoms}

abbrev pub is_slash : ℕ → Bool
is_slash b = nat_eq b 47

-- a text has one part at least
split_some : (P : Atoms → Type 0) → ((y : List ℕ) (ys : Atoms) → P (y ∷ ys)) → (bytes : List ℕ) → P (slice_split is_slash bytes)
split_some P h [] = h [] []
split_some P h (b ∷ bs) = by_test (is_slash b) (split_some (λ ys. P (onto_first b ys)) (λ y ys. h (b ∷ y) ys) bs)
  where
    by_test : (t : Bool) → P (onto_first b (slice_split is_slash bs)) → P (cond t ([] ∷ slice_split is_slash bs) (onto_first b (slice_split is_slash bs)))
    by_test true more = h [] (slice_split is_slash bs)
    by_test false more = more

-- a text has one part where it has no `/`
one_part : (bytes : List ℕ) → is_one_atom (slice_split is_slash bytes) ≡ not (list_any is_slash bytes)
one_part [] = refl
one_part (b ∷ bs) = by_test (is_slash b) (one_part bs)
  where
    by_test : (t : Bool) → is_one_atom (slice_split is_slash bs) ≡ not (list_any is_slash bs)
        → is_one_atom (cond t ([] ∷ slice_split is_slash bs) (onto_first b (slice_split is_slash bs))) ≡ not (t || list_any is_slash bs)
    by_test true more = split_some (λ ys. is_one_atom ([] ∷ ys) ≡ false) (λ y ys. refl) bs
    by_test false more = split_some (λ ys. is_one_atom (onto_first b ys) ≡ is_one_atom ys) same bs ∙ more
      where
        same : (y : List ℕ) (ys : Atoms) → is_one_atom (onto_first b (y ∷ ys)) ≡ is_one_atom (y ∷ ys)
        same y [] = refl
        same y (z ∷ zs) = refl

-- a path below a directory lies in it directly where the rest of its text has no `/`
pub directly_by_text : (dir path : Atoms) (rest : List ℕ) → strip_dir dir path ≡ Some (slice_split is_slash rest)
    → not (list_any is_slash rest) ≡ is_directly_in path dir
directly_by_text dir path rest e = sym (one_part rest) ∙ ap (λ o. option_map_or is_one_atom o false) (sym e)

-- a path that does not lie below a directory does not lie in it directly
pub not_directly : (dir path : Atoms) → is_below path dir ≡ false → false ≡ is_directly_in path dir
not_directly dir path e = by_rest (strip_dir dir path) e
  where
    by_rest : (o : Option Atoms) → option_map_or (λ (atom : List ℕ). true) (option_and_then first_atom o) false ≡ false
        → false ≡ option_map_or is_one_atom o false
    by_rest None e = refl
    by_rest (Some []) e = refl
    by_rest (Some (a ∷ as')) e = absurd (false≢true (sym e))
