-- Two lists of atoms compared atom by atom.
use Rattle.std.proofs.Common.{◌≡◌, ◌≢◌, ℕ, ◌+◌, ◌<◌, ◌≤◌, ◌&&◌, Bool, true, false, List, [], ◌∷◌, length, get_or, drop, refl, ap, sym, ◌∙◌, arith}
use Rattle.std.specs.Str.{bytes_eq}
use Rattle.std.proofs.lemmas.List.{drop_all, drop_more}
use Rattle.bx_tree.specs.Paths.{Atoms, same_path}

and_false : (a : Bool) → (a && false) ≡ false
and_false true = refl
and_false false = refl

pub other_length : (a b : Atoms) → length a ≢ length b → same_path a b ≡ false
other_length [] [] n = absurd (n refl)
other_length [] (y ∷ ys) n = refl
other_length (x ∷ xs) [] n = refl
other_length (x ∷ xs) (y ∷ ys) n =
    ap (λ t. bytes_eq x y && t) (other_length xs ys (λ e. n (omega (arith, e)))) ∙ and_false (bytes_eq x y)

heads : (a b : Atoms) (i : ℕ) (d e : List ℕ) → i < length a → i < length b
    → same_path (drop i a) (drop i b) ≡ (bytes_eq (get_or a i d) (get_or b i e) && same_path (drop (i + 1) a) (drop (i + 1) b))
heads a b i d e l m =
    ap (λ xs. same_path xs (drop i b)) (drop_more a i d l)
    ∙ ap (λ ys. same_path (get_or a i d ∷ drop (i + 1) a) ys) (drop_more b i e m)

-- equal atoms at a position leave the comparison to the atoms after it
pub alike : (a b : Atoms) (i : ℕ) (d e : List ℕ) (r whole : Bool) → i < length a → length a ≡ length b → d ≡ get_or a i d → e ≡ get_or b i e
    → r ≡ bytes_eq d e → r ≡ true → same_path (drop i a) (drop i b) ≡ whole → same_path (drop (i + 1) a) (drop (i + 1) b) ≡ whole
alike a b i d e r whole l n x y is equal h =
    let same = ap (λ t. bytes_eq t (get_or b i e)) (sym x) ∙ ap (bytes_eq d) (sym y) ∙ sym is ∙ equal in
    sym (heads a b i d e l (omega (arith, l, n)) ∙ ap (λ t. t && same_path (drop (i + 1) a) (drop (i + 1) b)) same) ∙ h

pub unlike : (a b : Atoms) (i : ℕ) (d e : List ℕ) (r whole : Bool) → i < length a → length a ≡ length b → d ≡ get_or a i d → e ≡ get_or b i e
    → r ≡ bytes_eq d e → r ≡ false → same_path (drop i a) (drop i b) ≡ whole → false ≡ whole
unlike a b i d e r whole l n x y is apart h =
    let differ = ap (λ t. bytes_eq t (get_or b i e)) (sym x) ∙ ap (bytes_eq d) (sym y) ∙ sym is ∙ apart in
    sym (heads a b i d e l (omega (arith, l, n)) ∙ ap (λ t. t && same_path (drop (i + 1) a) (drop (i + 1) b)) differ) ∙ h

pub all_alike : (a b : Atoms) (i : ℕ) (whole : Bool) → length a ≤ i → length a ≡ length b → same_path (drop i a) (drop i b) ≡ whole → true ≡ whole
all_alike a b i whole l n h =
    sym (ap (λ xs. same_path xs (drop i b)) (drop_all i a l) ∙ ap (λ ys. same_path [] ys) (drop_all i b (omega (arith, l, n)))) ∙ h
