-- Members of lists, by recursion.
use Rattle.std.proofs.Common.{◌≡◌, ℕ, zero, suc, ◌<◌, Bool, true, false, cond, ◌||◌, ◌&&◌, ◌⊎◌, List, [], ◌∷◌, ◌++◌, length}
use Rattle.std.proofs.Common.{map, get_or, Option, Some, None, refl, sym, ap, ◌∙◌, subst, inl, inr, arith}
use Rattle.std.specs.List.{Contains, cons_option, filter, filter_map, flat_map, list_all, list_any}

-- the value is one of these
abbrev pub Among : {X : Type 0} → List X → X → Type 0
Among [] x = ⊥
Among (y ∷ ys) x = (y ≡ x) ⊎ Among ys x

-- ## As `Contains`

at_among : {X : Type 0} (xs : List X) (x : X) (k : ℕ) → k < length xs → get_or xs k x ≡ x → Among xs x
at_among [] x k below is = absurd (omega arith)
at_among (y ∷ ys) x zero below is = inl is
at_among (y ∷ ys) x (suc k) below is = inr (at_among ys x k (omega arith) is)

pub among_of : {X : Type 0} (xs : List X) (x : X) → Contains xs x → Among xs x
among_of xs x c = at_among xs x c.0 c.1 c.2

pub contains_of : {X : Type 0} (xs : List X) (x : X) → Among xs x → Contains xs x
contains_of [] x a = absurd a
contains_of (y ∷ ys) x (inl is) = (0, omega arith, is)
contains_of (y ∷ ys) x (inr more) = let c = contains_of ys x more in (suc c.0, omega (arith, c.1), c.2)

-- ## Tests

pub and_left : (a b : Bool) → (a && b) ≡ true → a ≡ true
and_left true b e = refl
and_left false b e = e

pub and_right : (a b : Bool) → (a && b) ≡ true → b ≡ true
and_right true b e = e
and_right false b e = absurd cc

pub or_right : (a b : Bool) → b ≡ true → (a || b) ≡ true
or_right true b e = refl
or_right false b e = e

any_case
    : {X : Type 0} (p : X → Bool) (x : X) (xs : List X) (b : Bool) → p x ≡ b → (b || list_any p xs) ≡ true
    → (list_any p xs ≡ true → (y : X) × Among xs y × (p y ≡ true)) → (y : X) × Among (x ∷ xs) y × (p y ≡ true)
any_case p x xs true is e more = (x, inl refl, is)
any_case p x xs false is e more = let r = more e in (r.0, inr r.1, r.2)

-- one that passes a test which some pass
pub any_among
    : {X : Type 0} (p : X → Bool) (xs : List X) → list_any p xs ≡ true → (y : X) × Among xs y × (p y ≡ true)
any_among p [] e = absurd cc
any_among p (x ∷ xs) e = any_case p x xs (p x) refl e (any_among p xs)

pub among_any : {X : Type 0} (p : X → Bool) (xs : List X) (x : X) → Among xs x → p x ≡ true → list_any p xs ≡ true
among_any p [] x a e = absurd a
among_any p (y ∷ ys) x (inl is) e = let h : p y ≡ true = ap p is ∙ e in rw h refl
among_any p (y ∷ ys) x (inr more) e = or_right (p y) (list_any p ys) (among_any p ys x more e)

-- each passes a test that all pass
pub all_among : {X : Type 0} (p : X → Bool) (xs : List X) (x : X) → list_all p xs ≡ true → Among xs x → p x ≡ true
all_among p [] x e a = absurd a
all_among p (y ∷ ys) x e (inl is) = ap p (sym is) ∙ and_left (p y) (list_all p ys) e
all_among p (y ∷ ys) x e (inr more) = all_among p ys x (and_right (p y) (list_all p ys) e) more

-- ## Lists of lists

pub among_left : {X : Type 0} (xs ys : List X) (x : X) → Among xs x → Among (xs ++ ys) x
among_left [] ys x a = absurd a
among_left (y ∷ xs) ys x (inl is) = inl is
among_left (y ∷ xs) ys x (inr more) = inr (among_left xs ys x more)

pub among_right : {X : Type 0} (xs ys : List X) (x : X) → Among ys x → Among (xs ++ ys) x
among_right [] ys x a = a
among_right (y ∷ xs) ys x a = inr (among_right xs ys x a)

either_case : {X : Type 0} (y x : X) (xs ys : List X) → Among xs x ⊎ Among ys x → Among (y ∷ xs) x ⊎ Among ys x
either_case y x xs ys (inl a) = inl (inr a)
either_case y x xs ys (inr a) = inr a

pub among_either : {X : Type 0} (xs ys : List X) (x : X) → Among (xs ++ ys) x → Among xs x ⊎ Among ys x
among_either [] ys x a = inr a
among_either (y ∷ xs) ys x (inl is) = inl (inl is)
among_either (y ∷ xs) ys x (inr more) = either_case y x xs ys (among_either xs ys x more)

pub among_map : {X Y : Type 0} (f : X → Y) (xs : List X) (x : X) → Among xs x → Among (map f xs) (f x)
among_map f [] x a = absurd a
among_map f (y ∷ ys) x (inl is) = inl (ap f is)
among_map f (y ∷ ys) x (inr more) = inr (among_map f ys x more)

pub map_among
    : {X Y : Type 0} (f : X → Y) (xs : List X) (y : Y) → Among (map f xs) y → (x : X) × Among xs x × (f x ≡ y)
map_among f [] y a = absurd a
map_among f (x ∷ xs) y (inl is) = (x, inl refl, is)
map_among f (x ∷ xs) y (inr more) = let r = map_among f xs y more in (r.0, inr r.1, r.2)

pub among_flat
    : {X Y : Type 0} (f : X → List Y) (xs : List X) (x : X) (y : Y) → Among xs x → Among (f x) y
    → Among (flat_map f xs) y
among_flat f [] x y a b = absurd a
among_flat f (z ∷ zs) x y (inl is) b = among_left (f z) (flat_map f zs) y (subst (λ w. Among (f w) y) (sym is) b)
among_flat f (z ∷ zs) x y (inr more) b = among_right (f z) (flat_map f zs) y (among_flat f zs x y more b)

flat_case
    : {X Y : Type 0} (f : X → List Y) (x : X) (xs : List X) (y : Y)
    → (Among (flat_map f xs) y → (z : X) × Among xs z × Among (f z) y)
    → Among (f x) y ⊎ Among (flat_map f xs) y → (z : X) × Among (x ∷ xs) z × Among (f z) y
flat_case f x xs y more (inl a) = (x, inl refl, a)
flat_case f x xs y more (inr a) = let r = more a in (r.0, inr r.1, r.2)

pub flat_among
    : {X Y : Type 0} (f : X → List Y) (xs : List X) (y : Y) → Among (flat_map f xs) y
    → (x : X) × Among xs x × Among (f x) y
flat_among f [] y a = absurd a
flat_among f (x ∷ xs) y a =
    flat_case f x xs y (flat_among f xs y) (among_either (f x) (flat_map f xs) y a)

-- ## Filters

kept_case
    : {X : Type 0} (p : X → Bool) (y : X) (ys : List X) (x : X) (b : Bool) → p x ≡ true → p y ≡ b
    → Among (y ∷ ys) x → (Among ys x → Among (filter p ys) x) → Among (cond b (y ∷ filter p ys) (filter p ys)) x
kept_case p y ys x true holds is (inl same) more = inl same
kept_case p y ys x true holds is (inr a) more = inr (more a)
kept_case p y ys x false holds is (inl same) more = absurd (let e : p y ≡ p x = ap p same in cc)
kept_case p y ys x false holds is (inr a) more = more a

pub among_filter : {X : Type 0} (p : X → Bool) (xs : List X) (x : X) → Among xs x → p x ≡ true → Among (filter p xs) x
among_filter p [] x a holds = absurd a
among_filter p (y ∷ ys) x a holds = kept_case p y ys x (p y) holds refl a (λ b. among_filter p ys x b holds)

there_case
    : {X : Type 0} (p : X → Bool) (y : X) (ys : List X) (x : X) (b : Bool)
    → Among (cond b (y ∷ filter p ys) (filter p ys)) x → (Among (filter p ys) x → Among ys x) → Among (y ∷ ys) x
there_case p y ys x true (inl same) more = inl same
there_case p y ys x true (inr a) more = inr (more a)
there_case p y ys x false a more = inr (more a)

pub filter_among : {X : Type 0} (p : X → Bool) (xs : List X) (x : X) → Among (filter p xs) x → Among xs x
filter_among p [] x a = a
filter_among p (y ∷ ys) x a = there_case p y ys x (p y) a (filter_among p ys x)

found_case
    : {X Y : Type 0} (h : X → Option Y) (z : X) (zs : List X) (x : X) (y : Y) (o : Option Y) → h z ≡ o → h x ≡ Some y
    → Among (z ∷ zs) x → (Among zs x → Among (filter_map h zs) y) → Among (cons_option o (filter_map h zs)) y
found_case h z zs x y None is gives (inl same) more = absurd (let e : h z ≡ h x = ap h same in cc)
found_case h z zs x y None is gives (inr a) more = more a
found_case h z zs x y (Some w) is gives (inl same) more = inl (let e : h z ≡ h x = ap h same in cc)
found_case h z zs x y (Some w) is gives (inr a) more = inr (more a)

pub among_filter_map
    : {X Y : Type 0} (h : X → Option Y) (xs : List X) (x : X) (y : Y) → Among xs x → h x ≡ Some y
    → Among (filter_map h xs) y
among_filter_map h [] x y a gives = absurd a
among_filter_map h (z ∷ zs) x y a gives =
    found_case h z zs x y (h z) refl gives a (λ b. among_filter_map h zs x y b gives)

from_case
    : {X Y : Type 0} (h : X → Option Y) (z : X) (zs : List X) (y : Y) (o : Option Y) → h z ≡ o
    → Among (cons_option o (filter_map h zs)) y
    → (Among (filter_map h zs) y → (x : X) × Among zs x × (h x ≡ Some y))
    → (x : X) × Among (z ∷ zs) x × (h x ≡ Some y)
from_case h z zs y None is a more = let r = more a in (r.0, inr r.1, r.2)
from_case h z zs y (Some w) is (inl same) more = (z, inl refl, is ∙ ap Some same)
from_case h z zs y (Some w) is (inr a) more = let r = more a in (r.0, inr r.1, r.2)

pub filter_map_among
    : {X Y : Type 0} (h : X → Option Y) (xs : List X) (y : Y) → Among (filter_map h xs) y
    → (x : X) × Among xs x × (h x ≡ Some y)
filter_map_among h [] y a = absurd a
filter_map_among h (z ∷ zs) y a = from_case h z zs y (h z) refl a (filter_map_among h zs y)
