-- Paths below a directory are next to one another in a list that rises by path.
use Rattle.std.proofs.Common.{append_assoc, ◌≡◌, ◌≢◌, ℕ, ◌<◌, zero, suc, true, false, cond, List, [], ◌∷◌, ◌++◌, length, filter, get_or, drop, codes, refl, ap, sym, ◌∙◌, subst, inl, inr, arith}
use Rattle.std.specs.Cmp.Lexicographic.{slice_cmp}
use Rattle.std.specs.List.{AllByRecursion, AllWithin}
use Rattle.std.specs.List.Sorted.{IsPartitionPoint, IsPartitionedBy, IsStrictlySortedBy}
use Rattle.std.specs.Ordering.{MatchOrdering, is_lt, nat_cmp, ordering_then}
use Rattle.std.specs.declared.cmp.Ordering.{Ordering}
use Rattle.std.specs.declared.cmp.Ordering.TheVariants.{Less, Equal, Greater}
use Rattle.std.proofs.lemmas.Bool.{cases_Bool, cases_lt, false≢true}
use Rattle.std.proofs.lemmas.Cmp.{nat_cmp_total, nat_list_cmp_total, ranked, tied_itself}
use Rattle.std.proofs.lemmas.Map.Keys.{Less-from_sorted}
use Rattle.bx_tree.specs.Below.{is_below}
use Rattle.bx_tree.specs.Orders.{equal_texts}
use Rattle.bx_tree.specs.Paths.{Atoms, IsBelow, IsPath, path_cmp, path_text}
use Rattle.bx_tree.specs.Ranges.{AreFilePaths, comes_before, first_below, prefix_below}
use Rattle.bx_tree.proofs.BelowPaths.{below_decides}
use Rattle.bx_tree.proofs.PathTexts.{below_from_prefix, prefix_from_below}
use Rattle.bx_tree.proofs.AncestorSearch.{less_from_is_lt}

-- ## Texts that begin with a prefix

-- a text with a prefix does not come before the prefix
not_before_prefix : (prefix rest : List ℕ) → is_lt (slice_cmp nat_cmp (prefix ++ rest) prefix) ≡ false
not_before_prefix [] [] = refl
not_before_prefix [] (b ∷ bs) = refl
not_before_prefix (p ∷ ps) rest =
    ap (λ o. is_lt (ordering_then o (slice_cmp nat_cmp (ps ++ rest) ps))) (tied_itself nat_cmp_total p) ∙ not_before_prefix ps rest

equal_number : (x y : ℕ) (o : Ordering) → MatchOrdering o (x < y) (x ≡ y) (y < x) → o ≡ Equal → x ≡ y
equal_number x y Less h e = cc
equal_number x y Equal h e = h
equal_number x y Greater h e = cc

-- what comes before a text with a prefix, and not before the prefix, begins with it
pub between : (prefix text rest : List ℕ) → is_lt (slice_cmp nat_cmp text prefix) ≡ false
    → (slice_cmp nat_cmp text (prefix ++ rest) ≡ Greater → ⊥) → (more : List ℕ) × (text ≡ prefix ++ more)
between [] text rest after before = (text, refl)
between (p ∷ ps) [] rest after before = absurd (false≢true (sym after))
between (p ∷ ps) (b ∷ bs) rest after before = by_first (nat_cmp b p) refl (between ps bs rest)
  where
    by_first : (o : Ordering) → nat_cmp b p ≡ o
        → (is_lt (slice_cmp nat_cmp bs ps) ≡ false → (slice_cmp nat_cmp bs (ps ++ rest) ≡ Greater → ⊥) → (more : List ℕ) × (bs ≡ ps ++ more))
        → (more : List ℕ) × (b ∷ bs ≡ (p ∷ ps) ++ more)
    by_first Less e tails = absurd (false≢true (sym after ∙ ap (λ o. is_lt (ordering_then o (slice_cmp nat_cmp bs ps))) e))
    by_first Greater e tails = absurd (before (ap (λ o. ordering_then o (slice_cmp nat_cmp bs (ps ++ rest))) e))
    by_first Equal e tails =
        let same = equal_number b p (nat_cmp b p) (ranked b p (nat_cmp b p) refl) e in
        let more = tails
        (sym (ap (λ o. is_lt (ordering_then o (slice_cmp nat_cmp bs ps))) e) ∙ after)
        (λ g. before (ap (λ o. ordering_then o (slice_cmp nat_cmp bs (ps ++ rest))) e ∙ g)) in
        (more.0, ap (λ x. x ∷ bs) same ∙ ap (λ xs. p ∷ xs) more.1)

-- ## What lies below a directory begins with the directory's prefix

pub starts_below : (dir path : Atoms) → IsBelow path dir → (rest : List ℕ) × (path_text path ≡ prefix_below dir ++ rest)
starts_below [] path h = (path_text path, refl)
starts_below (a ∷ as') path h =
    let some : (a ∷ as') ≢ [] = λ e. cc in
    let after = prefix_from_below path (a ∷ as') some h in
    (after.0, after.1 ∙ sym (append_assoc (path_text (a ∷ as')) (codes "/") after.0))

below_start : (dir path : Atoms) → IsPath dir → IsPath path → path ≢ [] → (rest : List ℕ) → path_text path ≡ prefix_below dir ++ rest → IsBelow path dir
below_start [] path h k some rest e = (path, some, refl)
below_start (a ∷ as') path h k some rest e =
    below_from_prefix path (a ∷ as') k h (λ z. cc) rest (e ∙ append_assoc (path_text (a ∷ as')) (codes "/") rest)

-- what comes before the directory's prefix does not lie below the directory
pub before_not_below : (dir path : Atoms) → comes_before (prefix_below dir) path ≡ true → is_below path dir ≡ false
before_not_below dir path e = elim (cases_Bool (is_below path dir)) [
  | inr outside ↦ outside
  | inl inside ↦
      let start = starts_below dir path ((below_decides path dir).0 inside) in
      absurd (false≢true (sym (not_before_prefix (prefix_below dir) start.0)
      ∙ ap (λ t. is_lt (slice_cmp nat_cmp t (prefix_below dir))) (sym start.1) ∙ e))
]

text_first : (o p : Ordering) → ordering_then o p ≡ Less → o ≡ Greater → ⊥
text_first o p e g = let level : Greater ≡ Less = sym (ap (λ q. ordering_then q p) g) ∙ e in cc

pub not_greater : (path other : Atoms) → path_cmp path other ≡ Less → slice_cmp nat_cmp (path_text path) (path_text other) ≡ Greater → ⊥
not_greater path other e =
    text_first (slice_cmp nat_cmp (path_text path) (path_text other)) (slice_cmp (slice_cmp nat_cmp) path other) e

-- after a path that does not come before the prefix, and lies not below the directory, none lies below it
later_not_below : (dir path other : Atoms) → IsPath dir → IsPath path → path ≢ [] → comes_before (prefix_below dir) path ≡ false
    → is_below path dir ≡ false → path_cmp path other ≡ Less → is_below other dir ≡ false
later_not_below dir path other k h some after outside less = elim (cases_Bool (is_below other dir)) [
  | inr n ↦ n
  | inl inside ↦
      let start = starts_below dir other ((below_decides other dir).0 inside) in
      let here = between (prefix_below dir) (path_text path) start.0 after
      (λ g. not_greater path other less (ap (slice_cmp nat_cmp (path_text path)) start.1 ∙ g)) in
      absurd (false≢true (sym outside ∙ (below_decides path dir).1 (below_start dir path k h some here.0 here.1)))
]

none_below : (dir path : Atoms) (paths : List Atoms) → IsPath dir → IsPath path → path ≢ [] → comes_before (prefix_below dir) path ≡ false
    → is_below path dir ≡ false → AllByRecursion (λ other. path_cmp path other ≡ Less) paths → filter (λ p. is_below p dir) paths ≡ []
none_below dir path [] k h some after outside less = refl
none_below dir path (p ∷ ps) k h some after outside less =
    ap (λ b. cond b (p ∷ filter (λ q. is_below q dir) ps) (filter (λ q. is_below q dir) ps))
    (later_not_below dir path p k h some after outside less.0)
    ∙ none_below dir path ps k h some after outside less.1

-- ## Lists that rise by path

-- from one that does not come before the prefix on, those that lie below the directory come first
pub first_are_all : (dir : Atoms) (paths : List Atoms) → IsPath dir → AllByRecursion IsPath paths → AllByRecursion (λ path. path ≢ []) paths
    → IsStrictlySortedBy path_cmp paths → AllByRecursion (λ path. comes_before (prefix_below dir) path ≡ false) paths
    → first_below dir paths ≡ filter (λ p. is_below p dir) paths
unfolding IsStrictlySortedBy
first_are_all dir [] k are some up after = refl
first_are_all dir (p ∷ ps) k are some up after = elim (cases_Bool (is_below p dir)) [
  | inl inside ↦
      ap (λ b. cond b (p ∷ first_below dir ps) []) inside
      ∙ ap (λ l. p ∷ l) (first_are_all dir ps k are.1 some.1 up.1 after.1)
      ∙ sym (ap (λ b. cond b (p ∷ filter (λ q. is_below q dir) ps) (filter (λ q. is_below q dir) ps)) inside)
  | inr outside ↦
      ap (λ b. cond b (p ∷ first_below dir ps) []) outside
      ∙ sym (none_below dir p ps k are.0 some.0 after.0 outside up.0)
      ∙ sym (ap (λ b. cond b (p ∷ filter (λ q. is_below q dir) ps) (filter (λ q. is_below q dir) ps)) outside)
]

all_after : (P : Atoms → Type 0) (paths : List Atoms) → AllWithin P paths 0 (length paths) → AllByRecursion P paths
all_after P [] h = tt
all_after P (p ∷ ps) h =
    (h 0 p (omega arith) (omega arith), all_after P ps (λ i d low high. h (suc i) d (omega arith) (omega (arith, high))))

-- the paths from the first that does not come before the prefix have all that lie below the directory
first_from : (dir : Atoms) (paths : List Atoms) (start : ℕ) → IsPath dir → AllByRecursion IsPath paths
    → AllByRecursion (λ path. path ≢ []) paths → IsStrictlySortedBy path_cmp paths
    → AllWithin (λ p. comes_before (prefix_below dir) p ≡ true) paths 0 start
    → AllWithin (λ p. comes_before (prefix_below dir) p ≡ false) paths start (length paths)
    → first_below dir (drop start paths) ≡ filter (λ p. is_below p dir) paths
unfolding IsStrictlySortedBy
first_from dir [] zero k are some up before after = refl
first_from dir [] (suc n) k are some up before after = refl
first_from dir (p ∷ ps) zero k are some up before after =
    first_are_all dir (p ∷ ps) k are some up (all_after (λ path. comes_before (prefix_below dir) path ≡ false) (p ∷ ps) after)
first_from dir (p ∷ ps) (suc n) k are some up before after =
    first_from dir ps n k are.1 some.1 up.1 (λ i d low high. before (suc i) d (omega arith) (omega (arith, high)))
    (λ i d low high. after (suc i) d (omega (arith, low)) (omega (arith, high)))
    ∙ sym (ap (λ b. cond b (p ∷ filter (λ q. is_below q dir) ps) (filter (λ q. is_below q dir) ps))
    (before_not_below dir p (before 0 p (omega arith) (omega arith))))

pub all_below : (dir : Atoms) (paths : List Atoms) (start : ℕ) → IsPath dir → AreFilePaths paths
    → IsPartitionPoint (λ p. comes_before (prefix_below dir) p ≡ true) (λ p. comes_before (prefix_below dir) p ≡ false) paths start
    → first_below dir (drop start paths) ≡ filter (λ p. is_below p dir) paths
all_below dir paths start k are point = first_from dir paths start k are.are_paths are.no_root are.rising point.0 point.1

-- ## What comes before the prefix comes first

before_by : (prefix text other : List ℕ) (o : Ordering) → slice_cmp nat_cmp text other ≡ o → (o ≡ Greater → ⊥)
    → slice_cmp nat_cmp other prefix ≡ Less → slice_cmp nat_cmp text prefix ≡ Less
before_by prefix text other Less e n less = nat_list_cmp_total.trans text other prefix e less
before_by prefix text other Equal e n less = ap (λ t. slice_cmp nat_cmp t prefix) (equal_texts text other e) ∙ less
before_by prefix text other Greater e n less = absurd (n refl)

-- a text that comes not after one before another comes before the other
pub earlier_text : (prefix text other : List ℕ) → (slice_cmp nat_cmp text other ≡ Greater → ⊥) → is_lt (slice_cmp nat_cmp other prefix) ≡ true
    → is_lt (slice_cmp nat_cmp text prefix) ≡ true
earlier_text prefix text other n before =
    ap is_lt (before_by prefix text other (slice_cmp nat_cmp text other) refl n (less_from_is_lt (slice_cmp nat_cmp other prefix) before))

pub earlier_before : (prefix : List ℕ) (path other : Atoms) → path_cmp path other ≡ Less → comes_before prefix other ≡ true → comes_before prefix path ≡ true
earlier_before prefix path other less before = earlier_text prefix (path_text path) (path_text other) (not_greater path other less) before

pub partitioned : (prefix : List ℕ) (paths : List Atoms) → IsStrictlySortedBy path_cmp paths → IsPartitionedBy (comes_before prefix) paths
partitioned prefix paths rising i j d low high before = elim (cases_lt i j) [
  | inl less ↦ earlier_before prefix (get_or paths i d) (get_or paths j d) (Less-from_sorted path_cmp paths i j d rising less high) before
  | inr same ↦
      let level : i ≡ j = omega (arith, low, same) in
      subst (λ k. comes_before prefix (get_or paths k d) ≡ true) (sym level) before
]
