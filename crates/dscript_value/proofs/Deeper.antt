-- The greatest depth, and the field with a name, as loops find them.
use Rattle.std.proofs.Common.{◌≡◌, ℕ, ◌+◌, ◌<◌, ◌≤◌, max, true, false, List, [], ◌∷◌, map, length, get_or, drop, Option, Some, None, cond, ap, sym, ◌∙◌, arith}
use Rattle.std.specs.Str.{bytes_eq}
use Rattle.std.proofs.lemmas.List.{at_drop_more, at_drop_all}
use Rattle.dscript_value.specs.Data.{Plain, PlainField}
use Rattle.dscript_value.specs.Depths.{depth_of, field_at, greatest_depth}

-- one more value of a list
pub deeper : {X : Type 0} (f : List X → List Plain) (g : X → Plain) (xs : List X) (i : ℕ) (d : X) (depth next whole : ℕ)
    → ((x : X) (ys : List X) → f (x ∷ ys) ≡ g x ∷ f ys) → i < length xs → next ≡ max depth (depth_of (g (get_or xs i d)))
    → max depth (greatest_depth (f (drop i xs))) ≡ whole → max next (greatest_depth (f (drop (i + 1) xs))) ≡ whole
deeper f g xs i d depth next whole eq l n h =
    let e = at_drop_more (λ ys. greatest_depth (f ys)) xs i d l in
    let k = ap greatest_depth (eq (get_or xs i d) (drop (i + 1) xs)) in
    omega (arith, e, k, n, h)

pub deepest_all : {X : Type 0} (f : List X → List Plain) (xs : List X) (i : ℕ) (depth whole : ℕ) → f [] ≡ [] → length xs ≤ i
    → max depth (greatest_depth (f (drop i xs))) ≡ whole → depth ≡ whole
deepest_all f xs i depth whole nil l h =
    let e = at_drop_all (λ ys. greatest_depth (f ys)) xs i l ∙ ap greatest_depth nil in
    omega (arith, e, h)

-- ## Looking for a field

-- one field more without the name
pub look_on : {X : Type 0} (f : X → PlainField) (xs : List X) (i : ℕ) (d : X) (name : List ℕ) (whole : Option Plain) → i < length xs
    → bytes_eq (f (get_or xs i d)).0 name ≡ false → field_at (map f (drop i xs)) name ≡ whole → field_at (map f (drop (i + 1) xs)) name ≡ whole
look_on f xs i d name whole l absent h =
    sym (at_drop_more (λ ys. field_at (map f ys) name) xs i d l
    ∙ ap (λ b. cond b (Some (f (get_or xs i d)).1) (field_at (map f (drop (i + 1) xs)) name)) absent)
    ∙ h

-- the field with the name
pub look_here : {X : Type 0} (f : X → PlainField) (xs : List X) (i : ℕ) (d : X) (name : List ℕ) (whole : Option Plain) → i < length xs
    → bytes_eq (f (get_or xs i d)).0 name ≡ true → field_at (map f (drop i xs)) name ≡ whole → whole ≡ Some (f (get_or xs i d)).1
look_here f xs i d name whole l found h =
    sym h ∙ at_drop_more (λ ys. field_at (map f ys) name) xs i d l
    ∙ ap (λ b. cond b (Some (f (get_or xs i d)).1) (field_at (map f (drop (i + 1) xs)) name)) found

pub look_past : {X : Type 0} (f : X → PlainField) (xs : List X) (i : ℕ) (name : List ℕ) (whole : Option Plain) → length xs ≤ i
    → field_at (map f (drop i xs)) name ≡ whole → whole ≡ None
look_past f xs i name whole l h = sym h ∙ at_drop_all (λ ys. field_at (map f ys) name) xs i l
