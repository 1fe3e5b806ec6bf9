-- Directories in their order: a search finds those that are there, and which they are makes the list.
use Rattle.std.proofs.Common.{◌≡◌, ◌↔◌, ℕ, zero, suc, ◌+◌, Bool, true, false, cond, filter, List, [], ◌∷◌, length, get_or, IsTrue, Result, Ok, Err, refl, ap, sym, ◌∙◌, subst, inl, inr, ◌⊎◌, arith}
use Rattle.std.specs.Prelude.{Any}
use Rattle.std.specs.List.{Contains, list_any}
use Rattle.std.specs.List.Sorted.{IsBinarySearchResult, IsSearchInRange, IsSortedBy}
use Rattle.std.specs.Ordering.{is_lt, ordering_reverse}
use Rattle.std.specs.Result.{is_ok}
use Rattle.std.specs.declared.cmp.Ordering.{Ordering}
use Rattle.std.specs.declared.cmp.Ordering.TheVariants.{Less, Equal, Greater}
use Rattle.std.proofs.lemmas.Bool.{cases_lt, false≢true}
use Rattle.std.proofs.lemmas.Cmp.{tied_itself}
use Rattle.std.proofs.lemmas.List.Elements.{All-contains, All-from_recursion}
use Rattle.std.proofs.lemmas.List.Folds.{Any-from_list_any, list_any-from_Any}
use Rattle.std.proofs.lemmas.List.Kept.{IsStrictlySortedBy-filter}
use Rattle.std.proofs.lemmas.List.Sorted.{searchable_from_sorted}
use Rattle.std.proofs.lemmas.Map.Keys.{Less-from_sorted, sorted_head, sorted_tail}
use Rattle.pip_model_types.specs.Dirs.{RiseByForm, dir_cmp, same_dir}
use Rattle.pip_model_types.specs.Orders.{dir_cmp_total, same_dir_equiv}
use Rattle.pip_model_types.specs.declared.dir_inputs.DirInput.{DirInput}
use Rattle.pip_model_types.proofs.SetsOf.{same_dir_exact, equal_dirs}

-- ## A search

rising_sorted : (xs : List DirInput) → RiseByForm xs → IsSortedBy (λ a b. is_lt (dir_cmp a b)) xs
rising_sorted xs up k d low l =
    let less = Less-from_sorted dir_cmp xs k (k + 1) d up (omega arith) l in
    ap is_lt (dir_cmp_total.antisymm (get_or xs (k + 1) d) (get_or xs k d) ∙ ap ordering_reverse less)

not_there : (y x : DirInput) (p : Ordering) → (p ≡ Equal → ⊥) → dir_cmp y x ≡ p → y ≡ x → ⊥
not_there y x p n h e = n (sym h ∙ subst (λ z. dir_cmp z x ≡ Equal) (sym e) (tied_itself dir_cmp_total x))

pub there_if_found : (xs : List DirInput) (x : DirInput) (r : Result ℕ ℕ) → RiseByForm xs → IsSearchInRange r (length xs)
    → IsBinarySearchResult (λ y. dir_cmp y x) xs r → IsTrue (is_ok r) ↔ Contains xs x
there_if_found xs x (Ok i) up l h = (λ e. (i, l, equal_dirs (get_or xs i x) x (h x)), λ k. refl)
there_if_found xs x (Err i) up l h =
    let parts = h (searchable_from_sorted dir_cmp_total (λ (y : DirInput). y) xs x (rising_sorted xs up)) in (
      λ e. absurd (false≢true e),
      λ k. elim (cases_lt k.0 i) [
        | inl low ↦ absurd (not_there (get_or xs k.0 x) x Less (λ e. cc) (parts.0 k.0 x (omega arith) low) k.2)
        | inr high ↦ absurd (not_there (get_or xs k.0 x) x Greater (λ e. cc) (parts.1 k.0 x high k.1) k.2)
      ],
    )

-- ## Lists with the same directories

pub head_or_rest : {X : Type 0} (x y : X) (xs : List X) → Contains (x ∷ xs) y → (x ≡ y) ⊎ Contains xs y
head_or_rest x y xs (zero, l, e) = inl e
head_or_rest x y xs (suc k, l, e) = inr (k, omega (arith, l), e)

pub at_head : {X : Type 0} (x : X) (xs : List X) → Contains (x ∷ xs) x
at_head x xs = (0, omega arith, refl)

pub in_rest : {X : Type 0} (x y : X) (xs : List X) → Contains xs y → Contains (x ∷ xs) y
in_rest x y xs (k, l, e) = (suc k, omega (arith, l), e)

pub none_there : {X : Type 0} (x : X) → Contains [] x → ⊥
none_there x (k, l, e) = omega (arith, l)

pub after_head : (x y : DirInput) (xs : List DirInput) → RiseByForm (x ∷ xs) → Contains xs y → dir_cmp x y ≡ Less
after_head x y xs up c = All-contains (λ z. dir_cmp x z ≡ Less) xs y (All-from_recursion (λ z. dir_cmp x z ≡ Less) xs (sorted_head dir_cmp x xs up)) c

not_itself : (x y : DirInput) → x ≡ y → dir_cmp x y ≡ Less → ⊥
not_itself x y e l = not_there x y Less (λ k. cc) l e

not_both : (x y : DirInput) → dir_cmp x y ≡ Less → dir_cmp y x ≡ Less → ⊥
not_both x y a b =
    let back : dir_cmp y x ≡ Greater = dir_cmp_total.antisymm y x ∙ ap ordering_reverse a in
    let bad : Less ≡ Greater = sym b ∙ back in
    cc

-- what the rests of two lists have, where the lists begin alike and have the same directories
rest_into : (x y : DirInput) (xs ys : List DirInput) → RiseByForm (x ∷ xs) → ((z : DirInput) → Contains (x ∷ xs) z → Contains (y ∷ ys) z) → y ≡ x
    → (z : DirInput) → Contains xs z → Contains ys z
rest_into x y xs ys up into same z c = elim (head_or_rest y z ys (into z (in_rest x z xs c))) [
  | inl is ↦ absurd (not_itself x z (sym same ∙ is) (after_head x z xs up c))
  | inr k ↦ k
]

heads : (x y : DirInput) (xs ys : List DirInput) → RiseByForm (x ∷ xs) → RiseByForm (y ∷ ys)
    → ((z : DirInput) → Contains (x ∷ xs) z → Contains (y ∷ ys) z) → ((z : DirInput) → Contains (y ∷ ys) z → Contains (x ∷ xs) z) → y ≡ x
heads x y xs ys up rise into from = elim (head_or_rest y x ys (into x (at_head x xs))) [
  | inl same ↦ same
  | inr later ↦ elim (head_or_rest x y xs (from y (at_head y ys))) [
    | inl same ↦ sym same
    | inr after ↦ absurd (not_both x y (after_head x y xs up after) (after_head y x ys rise later))
  ]
]

-- lists that rise and have the same directories are equal
pub same_rising : (xs ys : List DirInput) → RiseByForm xs → RiseByForm ys → ((z : DirInput) → Contains xs z → Contains ys z)
    → ((z : DirInput) → Contains ys z → Contains xs z) → xs ≡ ys
same_rising [] [] up rise into from = refl
same_rising [] (y ∷ ys) up rise into from = absurd (none_there y (from y (at_head y ys)))
same_rising (x ∷ xs) [] up rise into from = absurd (none_there x (into x (at_head x xs)))
same_rising (x ∷ xs) (y ∷ ys) up rise into from =
    let same = heads x y xs ys up rise into from in
    ap (λ z. z ∷ xs) (sym same)
    ∙ ap (λ zs. y ∷ zs)
    (same_rising xs ys (sorted_tail dir_cmp x xs up) (sorted_tail dir_cmp y ys rise) (rest_into x y xs ys up into same)
    (rest_into y x ys xs rise from (sym same)))

-- ## Directories that are among some

-- whether a directory is among some
abbrev pub is_in : List DirInput → DirInput → Bool
is_in dirs dir = list_any (same_dir dir) dirs

pub in_decides : (dirs : List DirInput) (dir : DirInput) → (is_in dirs dir ≡ true → Contains dirs dir) × (Contains dirs dir → is_in dirs dir ≡ true)
in_decides dirs dir = (
  λ e. found (Any-from_list_any (same_dir dir) dirs e),
  λ (k, l, is). list_any-from_Any (same_dir dir) dirs (k, dir, l, is, same_dir_equiv.refl dir),
)
  where
    found : Any (λ d. same_dir dir d ≡ true) dirs → Contains dirs dir
    found (k, d, l, is, e) = subst (Contains dirs) (sym (same_dir_exact dir d e)) (k, l, is)

pub filter_keeps : {X : Type 0} (p : X → Bool) (xs : List X) (x : X) → p x ≡ true → Contains xs x → Contains (filter p xs) x
filter_keeps p [] x e c = c
filter_keeps p (y ∷ ys) x e c = by_test (p y) refl (head_or_rest y x ys c) (filter_keeps p ys x e)
  where
    by_test : (t : Bool) → p y ≡ t → (y ≡ x) ⊎ Contains ys x → (Contains ys x → Contains (filter p ys) x)
        → Contains (cond t (y ∷ filter p ys) (filter p ys)) x
    by_test true k (inl is) more = subst (Contains (y ∷ filter p ys)) is (at_head y (filter p ys))
    by_test true k (inr there) more = in_rest y x (filter p ys) (more there)
    by_test false k (inl is) more = absurd (false≢true (sym k ∙ ap p is ∙ e))
    by_test false k (inr there) more = more there

pub filter_from : {X : Type 0} (p : X → Bool) (xs : List X) (x : X) → Contains (filter p xs) x → (p x ≡ true) × Contains xs x
filter_from p [] x c = absurd (none_there x c)
filter_from p (y ∷ ys) x c = by_test (p y) refl c (filter_from p ys x)
  where
    by_test : (t : Bool) → p y ≡ t → Contains (cond t (y ∷ filter p ys) (filter p ys)) x
        → (Contains (filter p ys) x → (p x ≡ true) × Contains ys x) → (p x ≡ true) × Contains (y ∷ ys) x
    by_test true k c more = elim (head_or_rest y x (filter p ys) c) [
      | inl is ↦ (sym (ap p is) ∙ k, subst (Contains (y ∷ ys)) is (at_head y ys))
      | inr there ↦ let m = more there in (m.0, in_rest y x ys m.1)
    ]
    by_test false k c more = let m = more c in (m.0, in_rest y x ys m.1)

-- some of the directories, in their order, are those of them that are among these
pub some_by_test : (dirs some : List DirInput) → RiseByForm dirs → RiseByForm some → ((d : DirInput) → Contains some d → Contains dirs d)
    → some ≡ filter (is_in some) dirs
some_by_test dirs some up rise into =
    same_rising some (filter (is_in some) dirs) rise (IsStrictlySortedBy-filter dir_cmp (is_in some) dirs up)
    (λ d c. filter_keeps (is_in some) dirs d ((in_decides some d).1 c) (into d c))
    (λ d c. (in_decides some d).0 (filter_from (is_in some) dirs d c).0)
