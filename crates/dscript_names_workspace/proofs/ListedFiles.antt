-- Files at positions that rise are files in the order of the tree.
use Rattle.std.proofs.Common.{◌≡◌, ◌<◌, ℕ, zero, suc, Bool, true, false, List, [], ◌∷◌, ◌++◌, length, get_or, map, filter, cond, refl, ap, sym, subst, ◌∙◌, inl, inr, arith}
use Rattle.std.specs.Prelude.{◌&&◌, ◌||◌, ◌↔◌, Contains}
use Rattle.std.specs.List.{AllByRecursion, list_all}
use Rattle.std.specs.List.Sorted.{IsStrictlyIncreasing, IsStrictlySortedBy}
use Rattle.std.specs.Ordering.{MatchOrdering, nat_cmp}
use Rattle.std.specs.Cmp.{both_ways}
use Rattle.std.specs.declared.cmp.Ordering.TheVariants.{Less}
use Rattle.std.proofs.lemmas.Bool.{cases_Bool, false≢true}
use Rattle.std.proofs.lemmas.Cmp.{ranked}
use Rattle.std.proofs.lemmas.List.{length-map}
use Rattle.std.proofs.lemmas.List.Elements.{filter_agree}
use Rattle.std.proofs.lemmas.List.Folds.{list_any-append}
use Rattle.std.proofs.lemmas.List.Kept.{IsStrictlySortedBy-filter}
use Rattle.std.proofs.lemmas.Map.Keys.{Less-from_sorted, sorted_from_strictly_increasing}
use Rattle.bx_tree.specs.Paths.{Atoms, has_path, path_cmp, same_path}
use Rattle.bx_tree.specs.Orders.{path_cmp_total}
use Rattle.bx_tree.specs.Trees.{Files, IsTree, paths_of}
use Rattle.bx_tree.specs.Members.{Has}
use Rattle.bx_tree.proofs.Sets.{contains_has, has_contained, never_both, unique}
use Rattle.bx_tree.proofs.Members.{has_map, from_map, has_found, found_has, has_filter}
use Rattle.dscript_names_workspace.specs.Paths.{AreWithin, in_tree, paths_at}
use Rattle.dscript_names_workspace.specs.ConfigViews.{ArePlaces}

-- ## Members

passes : {X : Type 0} (test : X → Bool) (x : X) (b : Bool) (xs : List X) (q : X) → test x ≡ b → (Has xs q → test q ≡ true)
    → Has (cond b (x ∷ xs) xs) q → test q ≡ true
passes test x true xs q e k h = elim h [ inl is ↦ ap test (sym is) ∙ e | inr m ↦ k m ]
passes test x false xs q e k h = k h

filter_passes : {X : Type 0} (test : X → Bool) (xs : List X) (q : X) → Has (filter test xs) q → test q ≡ true
filter_passes test [] q h = absurd h
filter_passes test (x ∷ xs) q h = passes test x (test x) (filter test xs) q refl (filter_passes test xs q) h

in_at : {X : Type 0} (xs : List X) (i : ℕ) (d : X) → i < length xs → Has xs (get_or xs i d)
in_at [] i d l = absurd (omega (arith, l))
in_at (x ∷ xs) zero d l = inl refl
in_at (x ∷ xs) (suc i) d l = inr (in_at xs i d (omega (arith, l)))

-- ## Files at positions

number_below : (x y : ℕ) → nat_cmp x y ≡ Less → x < y
number_below x y e = subst (λ o. MatchOrdering o (x < y) (x ≡ y) (y < x)) e (ranked x y (nat_cmp x y) refl)

all_above : (paths : List Atoms) (k : ℕ) (qs : List ℕ) → IsStrictlySortedBy path_cmp paths
    → AllByRecursion (λ q. nat_cmp k q ≡ Less) qs → AllByRecursion (λ q. q < length paths) qs
    → AllByRecursion (λ p. path_cmp (get_or paths k []) p ≡ Less) (map (λ q. get_or paths q []) qs)
all_above paths k [] s h w = tt
all_above paths k (q ∷ qs) s h w =
    (Less-from_sorted path_cmp paths k q [] s (number_below k q h.0) w.0, all_above paths k qs s h.1 w.1)

rising_at : (paths : List Atoms) (qs : List ℕ) → IsStrictlySortedBy path_cmp paths → IsStrictlySortedBy nat_cmp qs
    → AllByRecursion (λ q. q < length paths) qs → IsStrictlySortedBy path_cmp (map (λ q. get_or paths q []) qs)
unfolding IsStrictlySortedBy
rising_at paths [] s h w = tt
rising_at paths (q ∷ qs) s h w = (all_above paths q qs s h.0 w.1, rising_at paths qs s h.1 w.1)

within_paths : (files : Files) (qs : List ℕ) → AreWithin files qs → AllByRecursion (λ q. q < length (paths_of files)) qs
within_paths files [] w = tt
within_paths files (q ∷ qs) w =
    (subst (λ n. q < n) (sym (length-map files (λ f. f.0))) w.0, within_paths files qs w.1)

in_within : (files : Files) (qs : List ℕ) (q : ℕ) → AreWithin files qs → Has qs q → q < length files
in_within files [] q w h = absurd h
in_within files (x ∷ xs) q w h = elim h [ inl e ↦ subst (λ z. z < length files) e w.0 | inr k ↦ in_within files xs q w.1 k ]

-- the files at rising positions are, in the order of the tree, the files at any list with these positions as members
in_tree_at : (files : Files) (ps qs : List ℕ) → IsTree files → AreWithin files qs → IsStrictlySortedBy nat_cmp qs
    → ((q : ℕ) → Has ps q → Has qs q) → ((q : ℕ) → Has qs q → Has ps q)
    → paths_at files qs ≡ in_tree files (paths_at files ps)
in_tree_at files ps qs tree w rises into back =
    let at = λ (q : ℕ). get_or (paths_of files) q [] in
    unique path_cmp (never_both path_cmp_total) (paths_at files qs) (in_tree files (paths_at files ps))
    (rising_at (paths_of files) qs tree.rising rises (within_paths files qs w))
    (IsStrictlySortedBy-filter path_cmp (has_path (paths_at files ps)) (paths_of files) tree.rising)
    (λ path h.
    let found = from_map at qs path h in
    let here = in_at (paths_of files) found.0 []
    (subst (λ n. found.0 < n) (sym (length-map files (λ f. f.0))) (in_within files qs found.0 w found.1)) in
    has_filter (has_path (paths_at files ps)) (paths_of files) path
    (subst (Has (paths_of files)) found.2 here)
    (has_found (paths_at files ps) path (subst (Has (paths_at files ps)) found.2 (has_map at ps found.0 (back found.0 found.1)))))
    (λ path h.
    let found = from_map at ps path (found_has (paths_at files ps) path
    (filter_passes (has_path (paths_at files ps)) (paths_of files) path h)) in
    subst (Has (paths_at files qs)) found.2 (has_map at qs found.0 (into found.0 found.1)))

all_within : (files : Files) (qs : List ℕ) → ((q : ℕ) → Has qs q → q < length files) → AreWithin files qs
all_within files [] h = tt
all_within files (q ∷ qs) h = (h q (inl refl), all_within files qs (λ x k. h x (inr k)))

-- positions are within a tree if a list with equal members is within it
pub within_same : (files : Files) (ps qs : List ℕ) → AreWithin files ps
    → ((q : ℕ) → Contains ps q ↔ Contains qs q) → AreWithin files qs
within_same files ps qs w same =
    all_within files qs (λ q h. in_within files ps q w (has_contained ps q ((same q).1 (contains_has qs q h))))

pub in_tree_rising : (files : Files) (ps qs : List ℕ) → IsTree files → AreWithin files ps → IsStrictlyIncreasing qs
    → ((q : ℕ) → Contains ps q ↔ Contains qs q) → paths_at files qs ≡ in_tree files (paths_at files ps)
in_tree_rising files ps qs tree w rises same =
    in_tree_at files ps qs tree (within_same files ps qs w same) (sorted_from_strictly_increasing qs rises)
    (λ q h. has_contained qs q ((same q).0 (contains_has ps q h)))
    (λ q h. has_contained ps q ((same q).1 (contains_has qs q h)))

-- ## Places of files

members : (files : Files) (ps qs : List ℕ) → ((q : ℕ) → Contains ps q → Contains qs q) → (path : Atoms)
    → has_path (paths_at files ps) path ≡ true → has_path (paths_at files qs) path ≡ true
members files ps qs into path h =
    let at = λ (q : ℕ). get_or (paths_of files) q [] in
    let found = from_map at ps path (found_has (paths_at files ps) path h) in
    has_found (paths_at files qs) path
    (subst (Has (paths_at files qs)) found.2 (has_map at qs found.0
    (has_contained qs found.0 (into found.0 (contains_has ps found.0 found.1)))))

-- two lists of positions with equal members are the places of equal sets of files
pub places_same : (files : Files) (ps qs : List ℕ) → AreWithin files ps → ((q : ℕ) → Contains ps q ↔ Contains qs q)
    → ArePlaces files (paths_at files ps) qs
places_same files ps qs w same = record {
  within = within_same files ps qs w same;
  same = λ path. both_ways (has_path (paths_at files qs) path) (has_path (paths_at files ps) path)
      (members files qs ps (λ q. (same q).1) path) (members files ps qs (λ q. (same q).0) path);
}

-- positions are the places of the files at them
pub places_at : (files : Files) (ps : List ℕ) → AreWithin files ps → ArePlaces files (paths_at files ps) ps
places_at files ps w = record { within = w; same = λ path. refl }

pub places_along : (files : Files) (paths : List Atoms) (ps qs : List ℕ) → ArePlaces files paths ps
    → ArePlaces files (paths_at files ps) qs → ArePlaces files paths qs
places_along files paths ps qs h k = record { within = k.within; same = λ path. k.same path ∙ h.same path }

pub places_joined : (files : Files) (xs ys : List Atoms) (ps qs rs : List ℕ) → ArePlaces files xs ps → ArePlaces files ys qs
    → ArePlaces files (paths_at files ps ++ paths_at files qs) rs → ArePlaces files (xs ++ ys) rs
places_joined files xs ys ps qs rs h k l = record {
  within = l.within;
  same = λ path.
      l.same path ∙ list_any-append (λ other. same_path other path) (paths_at files ps) (paths_at files qs)
      ∙ ap (λ b. b || has_path (paths_at files qs) path) (h.same path)
      ∙ ap (λ b. has_path xs path || b) (k.same path)
      ∙ sym (list_any-append (λ other. same_path other path) xs ys);
}

-- the files in the order of the tree are those at the places in order
pub in_tree_of : (files : Files) (paths : List Atoms) (ps qs : List ℕ) → ArePlaces files paths ps
    → paths_at files qs ≡ in_tree files (paths_at files ps) → in_tree files paths ≡ paths_at files qs
in_tree_of files paths ps qs h e =
    filter_agree (has_path paths) (has_path (paths_at files ps)) (λ path. sym (h.same path)) (paths_of files) ∙ sym e

all_at : (test : Atoms → Bool) (xs ys : List Atoms) → ((path : Atoms) → Has ys path → Has xs path) → list_all test xs ≡ true
    → list_all test ys ≡ true
all_at test xs [] into h = refl
all_at test xs (y ∷ ys) into h =
    ap (λ b. b && list_all test ys) (one_at test xs y (into y (inl refl)) h)
    ∙ all_at test xs ys (λ path k. into path (inr k)) h
  where
    one_at : (test : Atoms → Bool) (xs : List Atoms) (path : Atoms) → Has xs path → list_all test xs ≡ true → test path ≡ true
    one_at test [] path h e = absurd h
    one_at test (x ∷ xs) path h e = elim (cases_Bool (test x)) [
      | inl passes ↦ elim h [
        | inl is ↦ ap test (sym is) ∙ passes
        | inr k ↦ one_at test xs path k (sym (ap (λ b. b && list_all test xs) passes) ∙ e)
      ]
      | inr fails ↦ absurd (false≢true (sym (ap (λ b. b && list_all test xs) fails) ∙ e))
    ]

-- a test of each file is a test of each file at the places
pub all_places : (test : Atoms → Bool) (files : Files) (paths : List Atoms) (ps : List ℕ) → ArePlaces files paths ps
    → list_all test (paths_at files ps) ≡ list_all test paths
all_places test files paths ps h = both_ways (list_all test (paths_at files ps)) (list_all test paths)
    (all_at test (paths_at files ps) paths
    (λ path k. found_has (paths_at files ps) path (h.same path ∙ has_found paths path k)))
    (all_at test paths (paths_at files ps)
    (λ path k. found_has paths path (sym (h.same path) ∙ has_found (paths_at files ps) path k)))
