-- Members of lists that are put together from others, and tests that members pass.
use Rattle.std.proofs.Common.{◌≡◌, ◌⊎◌, Bool, true, false, ◌&&◌, cond, List, [], ◌∷◌, ◌++◌, filter, map, refl, ap, sym, ◌∙◌, subst, inl, inr}
use Rattle.std.specs.List.{AllByRecursion, list_all, list_any}
use Rattle.std.proofs.lemmas.Bool.{and_parts, or_cases, or_left, or_parts, or_right}
use Rattle.bx_tree.specs.Members.{Has}
use Rattle.bx_tree.specs.Orders.{same_path_decides}
use Rattle.bx_tree.specs.Paths.{Atoms, has_path, same_path}

-- ## Two lists, one after the other

pub has_front : {X : Type 0} (xs ys : List X) (x : X) → Has xs x → Has (xs ++ ys) x
has_front [] ys x h = absurd h
has_front (y ∷ xs) ys x h = elim h [ inl e ↦ inl e | inr k ↦ inr (has_front xs ys x k) ]

pub has_back : {X : Type 0} (xs ys : List X) (x : X) → Has ys x → Has (xs ++ ys) x
has_back [] ys x h = h
has_back (y ∷ xs) ys x h = inr (has_back xs ys x h)

pub has_last : {X : Type 0} (xs : List X) (x : X) → Has (xs ++ x ∷ []) x
has_last xs x = has_back xs (x ∷ []) x (inl refl)

pub has_either : {X : Type 0} (xs ys : List X) (x : X) → Has (xs ++ ys) x → Has xs x ⊎ Has ys x
has_either [] ys x h = inr h
has_either (y ∷ xs) ys x h = elim h [ inl e ↦ inl (inl e) | inr k ↦ elim (has_either xs ys x k) [ inl l ↦ inl (inr l) | inr r ↦ inr r ] ]

-- ## Images

pub has_map : {X Y : Type 0} (f : X → Y) (xs : List X) (x : X) → Has xs x → Has (map f xs) (f x)
has_map f [] x h = absurd h
has_map f (y ∷ xs) x h = elim h [ inl e ↦ inl (ap f e) | inr k ↦ inr (has_map f xs x k) ]

pub from_map : {X Y : Type 0} (f : X → Y) (xs : List X) (y : Y) → Has (map f xs) y → (x : X) × Has xs x × (f x ≡ y)
from_map f [] y h = absurd h
from_map f (x ∷ xs) y h = elim h [
  | inl e ↦ (x, inl refl, e)
  | inr k ↦ let rest = from_map f xs y k in (rest.0, inr rest.1, rest.2)
]

-- ## What holds of all members

pub has_all : {X : Type 0} (P : X → Type 0) (xs : List X) (x : X) → AllByRecursion P xs → Has xs x → P x
has_all P [] x h k = absurd k
has_all P (y ∷ ys) x h k = elim k [ inl e ↦ subst P e h.0 | inr r ↦ has_all P ys x h.1 r ]

pub all_has : {X : Type 0} (P : X → Type 0) (xs : List X) → ((x : X) → Has xs x → P x) → AllByRecursion P xs
all_has P [] h = tt
all_has P (x ∷ xs) h = (h x (inl refl), all_has P xs (λ y k. h y (inr k)))

-- ## Tests

pub all_pass : {X : Type 0} (p : X → Bool) (xs : List X) → ((x : X) → Has xs x → p x ≡ true) → list_all p xs ≡ true
all_pass p [] h = refl
all_pass p (x ∷ xs) h = ap (λ t. t && list_all p xs) (h x (inl refl)) ∙ all_pass p xs (λ y k. h y (inr k))

pub passes_all : {X : Type 0} (p : X → Bool) (xs : List X) (x : X) → list_all p xs ≡ true → Has xs x → p x ≡ true
passes_all p [] x e h = absurd h
passes_all p (y ∷ ys) x e h =
    let both = and_parts (p y) (list_all p ys) e in
    elim h [ inl same ↦ subst (λ z. p z ≡ true) same both.0 | inr more ↦ passes_all p ys x both.1 more ]

pub one_passes : {X : Type 0} (p : X → Bool) (xs : List X) (x : X) → Has xs x → p x ≡ true → list_any p xs ≡ true
one_passes p [] x h e = absurd h
one_passes p (y ∷ xs) x h e = elim h [
  | inl same ↦ or_left (p y) (list_any p xs) (ap p same ∙ e)
  | inr more ↦ or_right (p y) (list_any p xs) (one_passes p xs x more e)
]

pub none_passes : {X : Type 0} (p : X → Bool) (xs : List X) (x : X) → list_any p xs ≡ false → Has xs x → p x ≡ false
none_passes p [] x e h = absurd h
none_passes p (y ∷ xs) x e h = elim h [
  | inl same ↦ ap p (sym same) ∙ (or_parts (p y) (list_any p xs) e).0
  | inr more ↦ none_passes p xs x (or_parts (p y) (list_any p xs) e).1 more
]

pub has_filter : {X : Type 0} (p : X → Bool) (xs : List X) (x : X) → Has xs x → p x ≡ true → Has (filter p xs) x
has_filter p [] x h e = absurd h
has_filter p (y ∷ xs) x h e = elim h [
  | inl same ↦ subst (λ b. Has (cond b (y ∷ filter p xs) (filter p xs)) x) (sym (ap p same ∙ e)) (inl same)
  | inr more ↦ by_first (p y) (has_filter p xs x more e)
]
  where
    by_first : (b : Bool) → Has (filter p xs) x → Has (cond b (y ∷ filter p xs) (filter p xs)) x
    by_first true k = inr k
    by_first false k = k

-- ## Paths

pub has_found : (paths : List Atoms) (path : Atoms) → Has paths path → has_path paths path ≡ true
has_found [] path h = absurd h
has_found (p ∷ ps) path h = elim h [
  | inl e ↦ or_left (same_path p path) (has_path ps path) ((same_path_decides p path).1 e)
  | inr k ↦ or_right (same_path p path) (has_path ps path) (has_found ps path k)
]

pub found_has : (paths : List Atoms) (path : Atoms) → has_path paths path ≡ true → Has paths path
found_has [] path e = cc
found_has (p ∷ ps) path e = elim (or_cases (same_path p path) (has_path ps path) e) [
  | inl same ↦ inl ((same_path_decides p path).0 same)
  | inr more ↦ inr (found_has ps path more)
]
