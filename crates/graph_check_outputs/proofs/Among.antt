-- What lists that functions make of lists have.
use Rattle.std.proofs.Common.{inl, inr, ◌≡◌, zero, suc, List, [], ◌∷◌, map, arith, refl, subst, sym}
use Rattle.std.specs.List.{Contains, flat_map}
use Rattle.std.proofs.lemmas.List.Elements.{Contains-append_cases, Contains-append_left, Contains-append_right}

pub from_flat : {X Y : Type 0} (f : X → List Y) (xs : List X) (y : Y) → Contains (flat_map f xs) y → (x : X) × Contains xs x × Contains (f x) y
from_flat f [] y (k, l, e) = absurd (omega (arith, l))
from_flat f (x ∷ xs) y c = elim (Contains-append_cases (f x) (flat_map f xs) y c) [
  | inl here ↦ (x, (0, omega arith, refl), here)
  | inr there ↦ let z = from_flat f xs y there in (z.0, (suc z.1.0, omega (arith, z.1.1), z.1.2), z.2)
]

pub to_flat : {X Y : Type 0} (f : X → List Y) (xs : List X) (x : X) (y : Y) → Contains xs x → Contains (f x) y → Contains (flat_map f xs) y
to_flat f [] x y (k, l, e) c = absurd (omega (arith, l))
to_flat f (a ∷ as') x y (zero, l, e) c = Contains-append_left (f a) (flat_map f as') y (subst (λ b. Contains (f b) y) (sym e) c)
to_flat f (a ∷ as') x y (suc k, l, e) c = Contains-append_right (f a) (flat_map f as') y (to_flat f as' x y (k, omega (arith, l), e) c)

pub from_map : {X Y : Type 0} (f : X → Y) (xs : List X) (y : Y) → Contains (map f xs) y → (x : X) × Contains xs x × (f x ≡ y)
from_map f [] y (k, l, e) = absurd (omega (arith, l))
from_map f (x ∷ xs) y (zero, l, e) = (x, (0, omega arith, refl), e)
from_map f (x ∷ xs) y (suc k, l, e) =
    let z = from_map f xs y (k, omega (arith, l), e) in (z.0, (suc z.1.0, omega (arith, z.1.1), z.1.2), z.2)

pub to_map : {X Y : Type 0} (f : X → Y) (xs : List X) (x : X) → Contains xs x → Contains (map f xs) (f x)
to_map f [] x (k, l, e) = absurd (omega (arith, l))
to_map f (a ∷ as') x (zero, l, e) = (0, omega arith, subst (λ b. f a ≡ f b) e refl)
to_map f (a ∷ as') x (suc k, l, e) = let z = to_map f as' x (k, omega (arith, l), e) in (suc z.0, omega (arith, z.1), z.2)
