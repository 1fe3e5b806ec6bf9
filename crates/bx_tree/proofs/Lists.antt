-- What holds of all elements of a list or of some, and what is at a place of it.
use Rattle.std.proofs.Common.{◌≡◌, ℕ, ◌<◌, zero, suc, Bool, true, false, ◌||◌, List, [], ◌∷◌, ◌++◌, length, take, None, refl, ap, sym, ◌∙◌, arith}
use Rattle.std.specs.Prelude.{IsTrue, slice_get}
use Rattle.std.specs.List.{AllByRecursion, IsDistinct, list_all, list_any}
use Rattle.std.proofs.lemmas.Bool.{and_from, and_parts, false_from_ne_true}
use Rattle.std.specs.Str.{bytes_eq}
use Rattle.std.proofs.lemmas.Slice.Eq.{bytes_eq-Decides}

-- ## All elements

pub all_append : {X : Type 0} (P : X → Type 0) (xs ys : List X) → AllByRecursion P xs → AllByRecursion P ys → AllByRecursion P (xs ++ ys)
all_append P [] ys h k = k
all_append P (x ∷ xs) ys h k = (h.0, all_append P xs ys h.1 k)

pub all_push : {X : Type 0} (P : X → Type 0) (xs : List X) (y : X) → AllByRecursion P xs → P y → AllByRecursion P (xs ++ y ∷ [])
all_push P [] y h p = (p, tt)
all_push P (x ∷ xs) y h p = (h.0, all_push P xs y h.1 p)

pub all_front : {X : Type 0} (P : X → Type 0) (xs ys : List X) → AllByRecursion P (xs ++ ys) → AllByRecursion P xs
all_front P [] ys h = tt
all_front P (x ∷ xs) ys h = (h.0, all_front P xs ys h.1)

pub all_back : {X : Type 0} (P : X → Type 0) (xs ys : List X) → AllByRecursion P (xs ++ ys) → AllByRecursion P ys
all_back P [] ys h = h
all_back P (x ∷ xs) ys h = all_back P xs ys h.1

pub all_weaker : {X : Type 0} (P Q : X → Type 0) → ((x : X) → P x → Q x) → (xs : List X) → AllByRecursion P xs → AllByRecursion Q xs
all_weaker P Q f [] h = tt
all_weaker P Q f (x ∷ xs) h = (f x h.0, all_weaker P Q f xs h.1)

-- a test that all elements pass
pub all_true : {X : Type 0} (p : X → Bool) (xs : List X) → list_all p xs ≡ true → AllByRecursion (λ x. IsTrue (p x)) xs
all_true p [] e = tt
all_true p (x ∷ xs) e = let parts = and_parts (p x) (list_all p xs) e in (parts.0, all_true p xs parts.1)

pub true_all : {X : Type 0} (p : X → Bool) (xs : List X) → AllByRecursion (λ x. IsTrue (p x)) xs → list_all p xs ≡ true
true_all p [] h = refl
true_all p (x ∷ xs) h = and_from (p x) (list_all p xs) h.0 (true_all p xs h.1)

pub distinct_by : {K : Type 0} (E F : K → K → Bool) → ((x y : K) → E x y ≡ F x y) → (ks : List K) → IsDistinct F ks → IsDistinct E ks
unfolding IsDistinct
distinct_by E F same [] h = tt
distinct_by E F same (k ∷ ks) h = (all_weaker (λ y. F k y ≡ false) (λ y. E k y ≡ false) (λ y e. same k y ∙ e) ks h.0, distinct_by E F same ks h.1)

-- ## Some element

pub any_last : {X : Type 0} (p : X → Bool) (xs : List X) (x : X) → list_any p (xs ++ x ∷ []) ≡ (list_any p xs || p x)
any_last p [] x = last (p x)
  where
    last : (t : Bool) → (t || false) ≡ t
    last true = refl
    last false = refl
any_last p (y ∷ ys) x = ap (λ t. p y || t) (any_last p ys x) ∙ grouped (p y) (list_any p ys) (p x)
  where
    grouped : (a b c : Bool) → (a || (b || c)) ≡ ((a || b) || c)
    grouped true b c = refl
    grouped false b c = refl

-- an element passes one test or the other where one passes the one, or one the other
pub any_either : {X : Type 0} (p q : X → Bool) (xs : List X) → list_any (λ x. p x || q x) xs ≡ (list_any p xs || list_any q xs)
any_either p q [] = refl
any_either p q (x ∷ xs) = ap (λ t. (p x || q x) || t) (any_either p q xs) ∙ either_later (p x) (q x) (list_any p xs) (list_any q xs)
  where
    either_later : (a b c d : Bool) → ((a || b) || (c || d)) ≡ ((a || c) || (b || d))
    either_later true b c d = refl
    either_later false true true d = refl
    either_later false true false d = refl
    either_later false false c d = refl

pub any_alike : {X : Type 0} (p q : X → Bool) (xs : List X) → ((x : X) → p x ≡ q x) → list_any p xs ≡ list_any q xs
any_alike p q [] same = refl
any_alike p q (x ∷ xs) same = ap (λ t. t || list_any p xs) (same x) ∙ ap (λ t. q x || t) (any_alike p q xs same)

pub none_any : {X : Type 0} (xs : List X) → list_any (λ (x : X). false) xs ≡ false
none_any [] = refl
none_any (x ∷ xs) = none_any xs

pub any_swap : {X Y : Type 0} (r : X → Y → Bool) (xs : List X) (ys : List Y) → list_any (λ x. list_any (r x) ys) xs ≡ list_any (λ y. list_any (λ x. r x y) xs) ys
any_swap r [] ys = sym (none_any ys)
any_swap r (x ∷ xs) ys = ap (λ t. list_any (r x) ys || t) (any_swap r xs ys) ∙ sym (any_either (r x) (λ y. list_any (λ z. r z y) xs) ys)

-- ## Places

pub none_left : {X : Type 0} (xs : List X) → length xs ≡ 0 → xs ≡ []
none_left [] e = refl
none_left (x ∷ xs) e = absurd (omega (arith, e))

pub slice_get-take : {X : Type 0} (xs : List X) (n i : ℕ) → i < n → slice_get (take n xs) i ≡ slice_get xs i
slice_get-take [] zero i l = absurd (omega (arith, l))
slice_get-take [] (suc n) i l = refl
slice_get-take (x ∷ xs) zero i l = absurd (omega (arith, l))
slice_get-take (x ∷ xs) (suc n) zero l = refl
slice_get-take (x ∷ xs) (suc n) (suc i) l = slice_get-take xs n i (omega (arith, l))

pub slice_get-append : {X : Type 0} (xs ys : List X) (i : ℕ) → i < length xs → slice_get (xs ++ ys) i ≡ slice_get xs i
slice_get-append [] ys i l = absurd (omega (arith, l))
slice_get-append (x ∷ xs) ys zero l = refl
slice_get-append (x ∷ xs) ys (suc i) l = slice_get-append xs ys i (omega (arith, l))

-- there is an element at each place of a list
pub no_such_place : {X : Type 0} (xs : List X) (i : ℕ) → i < length xs → slice_get xs i ≡ None → ⊥
no_such_place [] i l e = absurd (omega (arith, l))
no_such_place (x ∷ xs) zero l e = cc
no_such_place (x ∷ xs) (suc i) l e = no_such_place xs i (omega (arith, l)) e

-- ## Texts

pub texts_differ : (a b : List ℕ) → (a ≡ b → ⊥) → bytes_eq a b ≡ false
texts_differ a b other = false_from_ne_true (bytes_eq a b) (λ e. other ((bytes_eq-Decides a b).0 e))
