-- Dotted names as texts.
use Rattle.std.proofs.Math.Dec.{eqb-suc-zero}
use Rattle.std.proofs.Common.{◌≡◌, ℕ, List, [], ◌∷◌, ◌++◌, length, eqb, refl, ap, sym, ◌∙◌, append_assoc}
use Rattle.std.specs.List.{join_with_byte}
use Rattle.dscript_names_scopes.specs.Spaces.{with_part}

-- each text, after a dot
abbrev pub joined_rest : List (List ℕ) → List ℕ
joined_rest [] = []
joined_rest (x ∷ xs) = 46 ∷ (x ++ joined_rest xs)

nil_right : (xs : List ℕ) → xs ++ [] ≡ xs
nil_right [] = refl
nil_right (x ∷ xs) = ap (λ ys. x ∷ ys) (nil_right xs)

pub joined-first : (x : List ℕ) (xs : List (List ℕ)) → x ++ joined_rest xs ≡ join_with_byte 46 (x ∷ xs)
joined-first x [] = nil_right x
joined-first x (y ∷ xs) = ap (λ zs. x ++ (46 ∷ zs)) (joined-first y xs)

joined-more : (x : List ℕ) (xs : List (List ℕ)) (y : List ℕ) → join_with_byte 46 (x ∷ xs ++ y ∷ []) ≡ join_with_byte 46 (x ∷ xs) ++ 46 ∷ y
joined-more x [] y = refl
joined-more x (z ∷ xs) y =
    ap (λ zs. x ++ (46 ∷ zs)) (joined-more z xs y)
    ∙ sym (append_assoc x (46 ∷ join_with_byte 46 (z ∷ xs)) (46 ∷ y))

-- the text of a name with one part more
pub joined-with : (before : List (List ℕ)) (y : List ℕ) → join_with_byte 46 (before ++ y ∷ []) ≡ with_part (eqb (length before) 0) (join_with_byte 46 before) y
joined-with [] y = refl
joined-with (x ∷ xs) y =
    joined-more x xs y
    ∙ sym (ap (λ is_first. with_part is_first (join_with_byte 46 (x ∷ xs)) y) (eqb-suc-zero (length xs)))
