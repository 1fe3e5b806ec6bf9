-- Tables of paths by their texts.
use Rattle.std.proofs.Common.{zero, suc, length-append, ◌^◌, ◌≡◌, ◌≢◌, ℕ, ◌+◌, ◌<◌, Bool, true, false, cond, List, [], ◌∷◌, ◌++◌, length, Option, Some, None, Result, Ok, Err, ◌⊎◌, refl, ap, sym, ◌∙◌, subst, arith, inl, inr}
use Rattle.std.specs.Prelude.{◌↔◌, All, Contains, IfOk, IfSome, IsSome, IsSomeAnd, MatchOption, OnOk, is_some, nat_eq, slice_get}
use Rattle.std.specs.Cmp.Lexicographic.{pointwise}
use Rattle.std.specs.List.{AllByRecursion, IsDistinct}
use Rattle.std.specs.Map.{lookup}
use Rattle.std.specs.declared.alloc.Global.{Global}
use Rattle.std.specs.declared.vec.Vec.{Vec}
use Rattle.std.proofs.lemmas.Bool.{cases_Bool, false≢true}
use Rattle.std.proofs.lemmas.List.Elements.{All-contains, All-from_recursion, Contains-append_left, Contains-push, Contains-push_cases}
use Rattle.std.proofs.lemmas.Slice.Eq.{bytes_eq-Decides}
use Rattle.bx_tree.specs.Paths.{Atoms, IsPath, has_path, path_text, same_path}
use Rattle.bx_tree.specs.Orders.{same_path_decides}
use Rattle.bx_tree.proofs.FoundByTest.{has_path_decides, has_path_from_answer}
use Rattle.bx_tree.proofs.Lists.{all_push}
use Rattle.bx_tree.proofs.PathTexts.{same_from_text}
use Rattle.bx_tree_paths.specs.Tables.{AreNumbered, Entries, IsTable, paths_in, with_path}

-- whether a text is that of a key
abbrev pub has_text : List ℕ → Vec ℕ Global → Bool
has_text text key = pointwise nat_eq text key.items

abbrev Keyed : Entries → Type 0
Keyed = AllByRecursion (λ (e : Vec ℕ Global × Atoms). e.0.items ≡ path_text e.1)

-- ## Looking up

looked : (entries : Entries) (text : List ℕ) → Keyed entries
    → MatchOption (lookup (has_text text) entries) (AllByRecursion (λ path. path_text path ≢ text) (paths_in entries)) (λ path. path_text path ≡ text)
looked [] text h = tt
looked (e ∷ es) text h = by_test (has_text text e.0) refl (looked es text h.1)
  where
    or_else : (o : Option Atoms) → (path_text e.1 ≢ text)
        → MatchOption o (AllByRecursion (λ path. path_text path ≢ text) (paths_in es)) (λ path. path_text path ≡ text)
        → MatchOption o (AllByRecursion (λ path. path_text path ≢ text) (paths_in (e ∷ es))) (λ path. path_text path ≡ text)
    or_else None other rest = (other, rest)
    or_else (Some path) other rest = rest

    by_test : (b : Bool) → has_text text e.0 ≡ b
        → MatchOption (lookup (has_text text) es) (AllByRecursion (λ path. path_text path ≢ text) (paths_in es)) (λ path. path_text path ≡ text)
        → MatchOption (lookup (has_text text) (e ∷ es)) (AllByRecursion (λ path. path_text path ≢ text) (paths_in (e ∷ es))) (λ path. path_text path ≡ text)
    by_test true is rest =
        subst (λ t. MatchOption (cond t (Some e.1) (lookup (has_text text) es)) (AllByRecursion (λ path. path_text path ≢ text) (paths_in (e ∷ es))) (λ path. path_text path ≡ text))
        (sym is) (sym h.0 ∙ sym ((bytes_eq-Decides text e.0.items).0 is))
    by_test false is rest =
        subst (λ t. MatchOption (cond t (Some e.1) (lookup (has_text text) es)) (AllByRecursion (λ path. path_text path ≢ text) (paths_in (e ∷ es))) (λ path. path_text path ≡ text))
        (sym is) (or_else (lookup (has_text text) es) (λ same. false≢true (sym is ∙ (bytes_eq-Decides text e.0.items).1 (sym (h.0 ∙ same)))) rest)

-- where nothing was found, no path has the text
pub none_looked : (entries : Entries) (text : List ℕ) → Keyed entries → is_some (lookup (has_text text) entries) ≡ false
    → All (λ path. path_text path ≢ text) (paths_in entries)
none_looked entries text h e = by_answer (lookup (has_text text) entries) e (looked entries text h)
  where
    by_answer : (o : Option Atoms) → is_some o ≡ false
        → MatchOption o (AllByRecursion (λ path. path_text path ≢ text) (paths_in entries)) (λ path. path_text path ≡ text)
        → All (λ path. path_text path ≢ text) (paths_in entries)
    by_answer None none rest = All-from_recursion (λ path. path_text path ≢ text) (paths_in entries) rest
    by_answer (Some path) none rest = absurd (false≢true (sym none))

-- where a number was found, the path with the number has the text
pub some_looked : (entries : Entries) (text : List ℕ) (number : ℕ) → Keyed entries → is_some (lookup (has_text text) entries) ≡ true
    → slice_get (paths_in entries) number ≡ lookup (has_text text) entries
    → IsSomeAnd (slice_get (paths_in entries) number) (λ path. path_text path ≡ text)
some_looked entries text number h e is = subst (λ o. IsSomeAnd o (λ path. path_text path ≡ text)) (sym is) (by_answer (lookup (has_text text) entries) e (looked entries text h))
  where
    by_answer : (o : Option Atoms) → is_some o ≡ true
        → MatchOption o (AllByRecursion (λ path. path_text path ≢ text) (paths_in entries)) (λ path. path_text path ≡ text)
        → IsSomeAnd o (λ path. path_text path ≡ text)
    by_answer None some rest = absurd (false≢true some)
    by_answer (Some path) some rest = rest

-- ## One path more

pub keyed_more : (entries : Entries) (key : Vec ℕ Global) (path : Atoms) → Keyed entries → key.items ≡ path_text path → Keyed (entries ++ (key, path) ∷ [])
keyed_more entries key path h e = all_push (λ (e : Vec ℕ Global × Atoms). e.0.items ≡ path_text e.1) entries (key, path) h e

pub paths_more : (entries : Entries) (key : Vec ℕ Global) (path : Atoms) → paths_in (entries ++ (key, path) ∷ []) ≡ paths_in entries ++ path ∷ []
paths_more [] key path = refl
paths_more (e ∷ es) key path = ap (λ ps. e.1 ∷ ps) (paths_more es key path)

differs : (p q : Atoms) → (q ≡ p → ⊥) → same_path q p ≡ false
differs p q other = elim (cases_Bool (same_path q p)) [
  | inr fails ↦ fails
  | inl same ↦ absurd (other ((same_path_decides q p).0 same))
]

distinct_more : (paths : List Atoms) (p : Atoms) → IsDistinct same_path paths → (Contains paths p → ⊥) → IsDistinct same_path (paths ++ p ∷ [])
unfolding IsDistinct
distinct_more [] p h none = (tt, tt)
distinct_more (q ∷ qs) p h none = (
  all_push (λ y. same_path q y ≡ false) qs p h.0 (differs p q (λ e. none (0, omega arith, e))),
  distinct_more qs p h.1 (λ c. none (suc c.0, omega (arith, c.1), c.2)),
)

-- paths with one more that was not there
pub numbered_more : (paths : List Atoms) (p : Atoms) → AreNumbered paths → IsPath p → (Contains paths p → ⊥) → length paths + 1 < 2 ^ 32
    → AreNumbered (paths ++ p ∷ [])
numbered_more paths p h is_path none few = record {
  are_paths = all_push IsPath paths p h.are_paths is_path;
  distinct = distinct_more paths p h.distinct none;
  few = omega (arith, few, length-append paths (p ∷ []));
}

pub table_more : (entries : Entries) (key : Vec ℕ Global) (path : Atoms) → IsTable entries → key.items ≡ path_text path → IsPath path
    → (Contains (paths_in entries) path → ⊥) → length (paths_in entries) + 1 < 2 ^ 32 → IsTable (entries ++ (key, path) ∷ [])
table_more entries key path h e is_path none few = record {
  keyed = keyed_more entries key path h.keyed e;
  numbered = subst AreNumbered (sym (paths_more entries key path)) (numbered_more (paths_in entries) path h.numbered is_path none few);
}

-- ## The number of a path

pub number_is : (paths : List Atoms) (n : ℕ) (p : Atoms) → AllByRecursion IsPath paths → IsPath p
    → IsSomeAnd (slice_get paths n) (λ path. path_text path ≡ path_text p) → slice_get paths n ≡ Some p
number_is [] n p a b h = absurd h
number_is (q ∷ qs) zero p a b h = ap Some (same_from_text q p a.0 b h)
number_is (q ∷ qs) (suc n) p a b h = number_is qs n p a.1 b h

pub number_contained : (paths : List Atoms) (n : ℕ) (p : Atoms) → slice_get paths n ≡ Some p → Contains paths p
number_contained [] n p e = cc
number_contained (q ∷ qs) zero p e = (0, omega arith, some_same q p e)
  where
    some_same : (x y : Atoms) → Some x ≡ Some y → x ≡ y
    some_same x y e = cc
number_contained (q ∷ qs) (suc n) p e = let c = number_contained qs n p e in (suc c.0, omega (arith, c.1), c.2)

pub no_number : (paths : List Atoms) (p : Atoms) → All (λ path. path_text path ≢ path_text p) paths → Contains paths p → ⊥
no_number paths p h c = All-contains (λ q. path_text q ≢ path_text p) paths p h c refl

-- a path that is there stays where it is
pub there_stays : (paths : List Atoms) (p : Atoms) → Contains paths p → with_path paths p ≡ paths
there_stays paths p c =
    ap (λ b. cond b paths (paths ++ p ∷ [])) (sym (has_path_from_answer paths p true (λ _. c, λ _. refl)))

-- and another goes last
pub new_is_last : (paths : List Atoms) (p : Atoms) → (Contains paths p → ⊥) → with_path paths p ≡ paths ++ p ∷ []
new_is_last paths p none =
    ap (λ b. cond b paths (paths ++ p ∷ [])) (sym (has_path_from_answer paths p false (λ e. absurd (false≢true e), λ c. absurd (none c))))

pub last_number : (paths : List Atoms) (p : Atoms) → slice_get (paths ++ p ∷ []) (length paths) ≡ Some p
last_number [] p = refl
last_number (q ∷ qs) p = last_number qs p

-- ## Where a path is not there

pub absent_lookup : (entries : Entries) (path : Atoms) (text : List ℕ) → Keyed entries → AllByRecursion IsPath (paths_in entries) → IsPath path
    → text ≡ path_text path → (Contains (paths_in entries) path → ⊥) → lookup (has_text text) entries ≡ None
absent_lookup [] path text h are is_path same none = refl
absent_lookup (e ∷ es) path text h are is_path same none =
    ap (λ b. cond b (Some e.1) (lookup (has_text text) es)) (not_here (has_text text e.0) refl)
    ∙ absent_lookup es path text h.1 are.1 is_path same (λ c. none (suc c.0, omega (arith, c.1), c.2))
  where
    not_here : (b : Bool) → has_text text e.0 ≡ b → has_text text e.0 ≡ false
    not_here false is = is
    not_here true is =
        absurd (none (0, omega arith, same_from_text e.1 path are.0 is_path (sym h.0 ∙ sym ((bytes_eq-Decides text e.0.items).0 is) ∙ same)))

pub no_entries : IsTable []
unfolding IsDistinct
no_entries = record { keyed = tt; numbered = record { are_paths = tt; distinct = tt; few = omega arith } }

-- ## What a search by text says of a path

pub found_path : {A : Type 0} (number : A → ℕ) (paths : List Atoms) (p : Atoms) (text : List ℕ) (r : Option A) → AllByRecursion IsPath paths → IsPath p
    → text ≡ path_text p
    → MatchOption r (All (λ path. path_text path ≢ text) paths) (λ id. IsSomeAnd (slice_get paths (number id)) (λ path. path_text path ≡ text))
    → IfSome r (λ id. slice_get paths (number id) ≡ Some p)
found_path number paths p text None are is_path e h = tt
found_path number paths p text (Some id) are is_path e h =
    number_is paths (number id) p are is_path (subst (λ t. IsSomeAnd (slice_get paths (number id)) (λ path. path_text path ≡ t)) e h)

pub there_path : {A : Type 0} (number : A → ℕ) (paths : List Atoms) (p : Atoms) (text : List ℕ) (r : Option A) → AllByRecursion IsPath paths → IsPath p
    → text ≡ path_text p
    → MatchOption r (All (λ path. path_text path ≢ text) paths) (λ id. IsSomeAnd (slice_get paths (number id)) (λ path. path_text path ≡ text))
    → IsSome r ↔ Contains paths p
there_path number paths p text None are is_path e h =
    (λ some. absurd (false≢true some), λ c. absurd (no_number paths p (subst (λ t. All (λ path. path_text path ≢ t) paths) e h) c))
there_path number paths p text (Some id) are is_path e h =
    (λ some. number_contained paths (number id) p (found_path number paths p text (Some id) are is_path e h), λ c. refl)

-- the path that was added has the last number
pub last_is : {A E : Type 0} (number : A → ℕ) (old new : List Atoms) (p : Atoms) (r : Result A E) → OnOk r (new ≡ old ++ p ∷ [])
    → IfOk r (λ id. number id ≡ length old) → IfOk r (λ id. slice_get new (number id) ≡ Some p)
last_is number old new p (Ok id) added last = ap (λ ps. slice_get ps (number id)) added ∙ ap (slice_get (old ++ p ∷ [])) last ∙ last_number old p
last_is number old new p (Err e) added last = tt

-- what the paths with one more contain
pub contains_with : (paths : List Atoms) (path p : Atoms) → Contains (with_path paths path) p ↔ (Contains paths p ⊎ (path ≡ p))
contains_with paths path p = by_test (has_path paths path) refl
  where
    after : (q : Atoms) → Contains (paths ++ path ∷ []) q → Contains paths q ⊎ (path ≡ q)
    after q c = elim (Contains-push_cases paths path q c) [
      | inl old ↦ inl old
      | inr same ↦ inr same
    ]

    by_test : (b : Bool) → has_path paths path ≡ b → Contains (cond b paths (paths ++ path ∷ [])) p ↔ (Contains paths p ⊎ (path ≡ p))
    by_test true is = (
      λ c. inl c,
      λ c. elim c [
        | inl old ↦ old
        | inr same ↦ subst (Contains paths) same ((has_path_decides paths path).0 is)
      ],
    )
    by_test false is = (
      after p,
      λ c. elim c [
        | inl old ↦ Contains-append_left paths (path ∷ []) p old
        | inr same ↦ subst (Contains (paths ++ path ∷ [])) same (Contains-push paths path)
      ],
    )

-- one path more at most
pub with_longer : (paths : List Atoms) (path : Atoms) → length (with_path paths path) < length paths + 2
with_longer paths path = by_test (has_path paths path)
  where
    by_test : (b : Bool) → length (cond b paths (paths ++ path ∷ [])) < length paths + 2
    by_test true = omega arith
    by_test false = omega (arith, length-append paths (path ∷ []))
