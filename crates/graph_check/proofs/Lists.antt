-- Comparing lists by what a function gives of their elements.
use Rattle.std.proofs.Common.{◌≡◌, List, [], ◌∷◌, map, refl, ap}
use Rattle.std.specs.Cmp.Lexicographic.{slice_cmp}
use Rattle.std.specs.Ordering.{ordering_then}
use Rattle.std.specs.declared.cmp.Ordering.{Ordering}

pub slice_cmp-map : {A B : Type 0} (f : A → B) (R : B → B → Ordering) (xs ys : List A)
    → slice_cmp R (map f xs) (map f ys) ≡ slice_cmp (λ x y. R (f x) (f y)) xs ys
slice_cmp-map f R [] [] = refl
slice_cmp-map f R [] (y ∷ ys) = refl
slice_cmp-map f R (x ∷ xs) [] = refl
slice_cmp-map f R (x ∷ xs) (y ∷ ys) = ap (ordering_then (R (f x) (f y))) (slice_cmp-map f R xs ys)
