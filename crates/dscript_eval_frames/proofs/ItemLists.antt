-- Items of lists from a position on.
use Rattle.std.proofs.Common.{◌≡◌, ℕ, suc, zero, ◌+◌, ◌<◌, add-one, List, [], ◌∷◌, ◌++◌, drop, length, map, Option, Some, None}
use Rattle.std.proofs.Common.{MatchOption, refl, ap, sym, ◌∙◌}
use Rattle.std.specs.Borrow.{Bor}
use Rattle.std.specs.Prelude.{option_map, slice_get}
use Rattle.std.proofs.lemmas.List.{map-append}
use Rattle.std.proofs.lemmas.Option.{slice_get-map}
use Rattle.dscript_value.specs.Plain.{Plain, plain_of}
use Rattle.dscript_value.specs.declared.value.Value.{Value}

from_item
    : {A B : Type 0} (f : A → B) (xs : List A) (n : ℕ) (x : A) → slice_get xs n ≡ Some x
    → drop n (map f xs) ≡ f x ∷ drop (suc n) (map f xs)
from_item f [] n x is = let never : None ≡ Some x = is in cc
from_item f (y ∷ xs) zero x is = let same : y ≡ x = cc in ap (λ z. f z ∷ map f xs) same
from_item f (y ∷ xs) (suc n) x is = from_item f xs n x is

pub item_first
    : {A B : Type 0} (f : A → B) (xs : List A) (n : ℕ) (x : A) → slice_get xs n ≡ Some x
    → drop n (map f xs) ≡ f x ∷ drop (n + 1) (map f xs)
item_first f xs n x is = from_item f xs n x is ∙ ap (λ k. f x ∷ drop k (map f xs)) (sym (add-one n))

pub no_item : {A B : Type 0} (f : A → B) (xs : List A) (n : ℕ) → slice_get xs n ≡ None → drop n (map f xs) ≡ []
no_item f [] zero is = refl
no_item f [] (suc n) is = refl
no_item f (y ∷ xs) zero is = let never : Some y ≡ None = is in cc
no_item f (y ∷ xs) (suc n) is = no_item f xs n is

unmapped_first
    : {A : Type 0} (xs : List A) (n : ℕ) (x : A) → slice_get xs n ≡ Some x → drop n xs ≡ x ∷ drop (suc n) xs
unmapped_first [] n x is = let never : None ≡ Some x = is in cc
unmapped_first (y ∷ xs) zero x is = let same : y ≡ x = cc in ap (λ z. z ∷ xs) same
unmapped_first (y ∷ xs) (suc n) x is = unmapped_first xs n x is

pub same_first
    : {A : Type 0} (xs : List A) (n : ℕ) (x : A) → slice_get xs n ≡ Some x → drop n xs ≡ x ∷ drop (n + 1) xs
same_first xs n x is = unmapped_first xs n x is ∙ ap (λ k. x ∷ drop k xs) (sym (add-one n))

pub none_left : {A : Type 0} (xs : List A) (n : ℕ) → slice_get xs n ≡ None → drop n xs ≡ []
none_left [] zero is = refl
none_left [] (suc n) is = refl
none_left (y ∷ xs) zero is = let never : Some y ≡ None = is in cc
none_left (y ∷ xs) (suc n) is = none_left xs n is

none_more : {A : Type 0} (xs : List A) (n : ℕ) → drop n xs ≡ [] → drop (suc n) xs ≡ []
none_more [] n is = refl
none_more (y ∷ xs) zero is = let never : y ∷ xs ≡ [] = is in cc
none_more (y ∷ xs) (suc n) is = none_more xs n is

pub none_next : {A : Type 0} (xs : List A) (n : ℕ) → drop n xs ≡ [] → drop (n + 1) xs ≡ []
none_next xs n is = ap (λ k. drop k xs) (add-one n) ∙ none_more xs n is

pub none_of_none : {A : Type 0} (n : ℕ) → drop {A = A} n [] ≡ []
none_of_none zero = refl
none_of_none (suc n) = refl

-- the item at a position is the first from there on
pub item_there : {A : Type 0} (xs : List A) (n : ℕ) (x : A) (ys : List A) → drop n xs ≡ x ∷ ys → slice_get xs n ≡ Some x
item_there [] zero x ys is = let never : [] ≡ x ∷ ys = is in cc
item_there [] (suc n) x ys is = let never : [] ≡ x ∷ ys = is in cc
item_there (y ∷ xs) zero x ys is = let same : y ≡ x = cc in ap Some same
item_there (y ∷ xs) (suc n) x ys is = item_there xs n x ys is

-- an item that is shared, and those after it
pub shared_first
    : {A : Type 0} (xs : List A) (n : ℕ) (x copy : A) → slice_get xs n ≡ Some x → copy ≡ x
    → drop n xs ≡ copy ∷ drop (n + 1) xs
shared_first xs n x copy is same = same_first xs n x is ∙ ap (λ y. y ∷ drop (n + 1) xs) (sym same)

-- an item that is read where it is
pub item_where
    : (r : Option (Bor Value)) (xs : List Plain) (n : ℕ)
    → MatchOption r (slice_get xs n ≡ None) (λ v. slice_get xs n ≡ Some (plain_of v.now))
    → MatchOption r (drop n xs ≡ []) (λ v. drop n xs ≡ plain_of v.now ∷ drop (n + 1) xs)
item_where None xs n none = none_left xs n none
item_where (Some v) xs n found = same_first xs n (plain_of v.now) found

pub mapped_none
    : {A B : Type 0} (f : A → B) (xs zs : List A) (n : ℕ) → xs ≡ zs → slice_get xs n ≡ None
    → slice_get (map f zs) n ≡ None
mapped_none f xs zs n same none =
    ap (λ l. slice_get (map f l) n) (sym same) ∙ slice_get-map f xs n ∙ ap (option_map f) none

pub mapped_some
    : {A B : Type 0} (f : A → B) (xs zs : List A) (n : ℕ) (x : A) → xs ≡ zs → slice_get xs n ≡ Some x
    → slice_get (map f zs) n ≡ Some (f x)
mapped_some f xs zs n x same is =
    ap (λ l. slice_get (map f l) n) (sym same) ∙ slice_get-map f xs n ∙ ap (option_map f) is

-- a list that ends in an item, by what that is
pub ends_in
    : {A : Type 0} (xs ys : List A) (x y : A) → ys ≡ xs ++ x ∷ [] → x ≡ y → ys ≡ xs ++ y ∷ []
ends_in xs ys x y is same = is ∙ ap (λ z. xs ++ z ∷ []) same

-- an item that was added is the last
pub added
    : {A B : Type 0} (f : A → B) (xs ys : List A) (x : A) (y : B) → ys ≡ xs ++ x ∷ [] → f x ≡ y
    → map f ys ≡ map f xs ++ y ∷ []
added f xs ys x y is same =
    ap (λ zs. map f zs) is ∙ map-append f xs (x ∷ []) ∙ ap (λ z. map f xs ++ z ∷ []) same

-- where there are no more items, there is none at the position
pub nothing_there : {A : Type 0} (xs : List A) (n : ℕ) → drop n xs ≡ [] → slice_get xs n ≡ None
nothing_there [] n is = refl
nothing_there (y ∷ xs) zero is = let never : y ∷ xs ≡ [] = is in cc
nothing_there (y ∷ xs) (suc n) is = nothing_there xs n is
