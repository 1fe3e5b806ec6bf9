-- Places of names in lists, and tables that have them.
use Rattle.std.proofs.Common.{◌≡◌, ℕ, ◌<◌, ◌≤◌, Bool, true, false, List, ◌++◌, ◌∷◌, [], ◌+◌, Option, Some, None, length, cond, get_or, refl, ap, sym, ◌∙◌, inl, inr, nat_lt, arith, ◌||◌, is_some}
use Rattle.std.proofs.Math.ListN.{set}
use Rattle.std.proofs.lemmas.Bool.{cases_Bool}
use Rattle.std.proofs.lemmas.Cmp.{nat_list_eq_equiv}
use Rattle.std.proofs.lemmas.Iterator.Adapters.{position_from-zero}
use Rattle.std.proofs.lemmas.List.{length-set}
use Rattle.std.proofs.lemmas.List.Folds.{find_at, list_any-append, position_or_len-set}
use Rattle.std.proofs.lemmas.Option.{slice_get_past}
use Rattle.std.specs.List.{find, list_any, position, position_from, position_or_len, slice_get}
use Rattle.std.specs.Option.{option_or}
use Rattle.std.specs.Str.{bytes_eq}
use Rattle.dscript_names_scopes.proofs.FirstValues.{number_before}

-- ## The first element that passes a test, by its place

pub find_placed : {X : Type 0} (p : X → Bool) (xs : List X) (i : ℕ)
    → position_from p 0 xs ≡ Some i → find p xs ≡ slice_get xs i
find_placed p xs i e =
    let at : position p xs ≡ Some i = position_from-zero p xs ∙ e in
    elim (cases_Bool (nat_lt (position_or_len p xs) (length xs))) [
      | inl t ↦ let same : position_or_len p xs ≡ i = cc in find_at p xs ∙ ap (slice_get xs) same
      | inr f ↦ cc
    ]

pub find_nowhere : {X : Type 0} (p : X → Bool) (xs : List X) → position_from p 0 xs ≡ None → find p xs ≡ None
find_nowhere p xs e =
    let at : position p xs ≡ None = position_from-zero p xs ∙ e in
    elim (cases_Bool (nat_lt (position_or_len p xs) (length xs))) [
      | inl t ↦ cc
      | inr f ↦
          let past : length xs ≤ position_or_len p xs = grind (arith, f) in
          find_at p xs ∙ slice_get_past xs (position_or_len p xs) past
    ]

pub placed_within : {X : Type 0} (p : X → Bool) (xs : List X) (i : ℕ) → position_from p 0 xs ≡ Some i → i < length xs
placed_within p xs i e =
    let at : position p xs ≡ Some i = position_from-zero p xs ∙ e in
    elim (cases_Bool (nat_lt (position_or_len p xs) (length xs))) [
      | inl t ↦
          let same : position_or_len p xs ≡ i = cc in
          let within : position_or_len p xs < length xs = grind (arith, t) in
          omega (arith, same, within)
      | inr f ↦ cc
    ]

-- an element that passes as the one did in whose place it is put
pub placed_set : {X : Type 0} (p : X → Bool) (xs : List X) (i : ℕ) (y d : X)
    → p y ≡ p (get_or xs i d) → position_from p 0 (set xs i y) ≡ position_from p 0 xs
placed_set p xs i y d e =
    sym (position_from-zero p (set xs i y))
    ∙ ap (λ k. cond (nat_lt k (length (set xs i y))) (Some k) None) (position_or_len-set p xs i y d e)
    ∙ ap (λ n. cond (nat_lt (position_or_len p xs) n) (Some (position_or_len p xs)) None) (length-set xs i y)
    ∙ position_from-zero p xs

-- ## Tables by text

-- the places, with one more element before those in the table
pub place_put : {X : Type 0} (name_of : X → List ℕ) (left before : List X) (y : X) (x : List ℕ) (n : ℕ)
    (old new whole : Option ℕ)
    → left ≡ before ++ y ∷ [] → n ≡ length before → new ≡ cond (bytes_eq (name_of y) x) (Some n) old
    → option_or (position_from (λ z. bytes_eq (name_of z) x) 0 left) old ≡ whole
    → option_or (position_from (λ z. bytes_eq (name_of z) x) 0 before) new ≡ whole
place_put name_of left before y x n old new whole split is put kept =
    number_before (λ z. bytes_eq (name_of z) x) before y (bytes_eq (name_of y) x) old new whole refl
    (put ∙ ap (λ k. cond (bytes_eq (name_of y) x) (Some k) old) is)
    (ap (λ zs. option_or (position_from (λ z. bytes_eq (name_of z) x) 0 zs) old) (sym split) ∙ kept)

-- ## Texts

-- two tests that agree on each item find one place
pub same_tests : {X : Type 0} (p q : X → Bool) → ((x : X) → p x ≡ q x) → (i : ℕ) (xs : List X)
    → position_from p i xs ≡ position_from q i xs
same_tests p q same i [] = refl
same_tests p q same i (x ∷ xs) =
    ap (λ b. cond b (Some i) (position_from p (i + 1) xs)) (same x)
    ∙ ap (cond (q x) (Some i)) (same_tests p q same (i + 1) xs)

-- the place of a text among texts, by the table
pub text_placed : (x : List ℕ) (xs : List (List ℕ)) → position_from (λ y. bytes_eq y x) 0 xs ≡ position (bytes_eq x) xs
text_placed x xs =
    same_tests (λ y. bytes_eq y x) (bytes_eq x) (λ y. nat_list_eq_equiv.symm y x) 0 xs
    ∙ sym (position_from-zero (bytes_eq x) xs)

-- an element passes exactly where there is a place
pub any_placed : {X : Type 0} (p : X → Bool) (i : ℕ) (xs : List X) → is_some (position_from p i xs) ≡ list_any p xs
any_placed p i [] = refl
any_placed p i (x ∷ xs) = elim (p x) as (λ b. is_some (cond b (Some i) (position_from p (i + 1) xs)) ≡ (b || list_any p xs)) [
  | true ↦ refl
  | false ↦ any_placed p (i + 1) xs
]

-- one more name that is given the place
pub one_more : (x name : List ℕ) (names more : List (List ℕ)) (place : Option ℕ) (first old new : Option ℕ)
    → more ≡ names ++ name ∷ [] → old ≡ cond (list_any (bytes_eq x) names) place first
    → new ≡ cond (bytes_eq name x) place old → new ≡ cond (list_any (bytes_eq x) more) place first
one_more x name names more place first old new split kept put =
    put ∙ ap (cond (bytes_eq name x) place) kept
    ∙ ap (λ b. cond b place (cond (list_any (bytes_eq x) names) place first)) (nat_list_eq_equiv.symm name x)
    ∙ either (list_any (bytes_eq x) names) (bytes_eq x name)
    ∙ ap (λ b. cond b place first) (sym (list_any-append (bytes_eq x) names (name ∷ [])))
    ∙ ap (λ ns. cond (list_any (bytes_eq x) ns) place first) (sym split)
  where
    either : (a b : Bool) → cond b place (cond a place first) ≡ cond (a || (b || false)) place first
    either true true = refl
    either true false = refl
    either false true = refl
    either false false = refl

-- one more file before those in the tables
pub file_opened : {X : Type 0} (p : X → Bool) (left before : List X) (f : X) (n : ℕ) (old new : Option ℕ) (whole : Bool)
    → left ≡ before ++ f ∷ [] → new ≡ cond (p f) (Some n) old
    → (list_any p left || is_some old) ≡ whole → (list_any p before || is_some new) ≡ whole
file_opened p left before f n old new whole split put kept =
    ap (λ o. list_any p before || is_some o) put
    ∙ either (list_any p before) (p f)
    ∙ ap (λ b. b || is_some old) (sym (list_any-append p before (f ∷ [])))
    ∙ ap (λ xs. list_any p xs || is_some old) (sym split) ∙ kept
  where
    either : (a b : Bool) → (a || is_some (cond b (Some n) old)) ≡ ((a || (b || false)) || is_some old)
    either true b = refl
    either false true = refl
    either false false = refl
