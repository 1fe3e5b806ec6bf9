-- The items below a directory are next to one another in a list that rises by path.
use Rattle.std.proofs.Common.{append_assoc, ◌≡◌, ◌≢◌, ℕ, ◌+◌, ◌-◌, ◌<◌, ◌≤◌, zero, suc, Bool, true, false, cond, List, [], ◌∷◌, ◌++◌, length, filter, get_or, take, drop, codes, refl, ap, sym, ◌∙◌, subst, inl, inr, arith, ◌⊎◌}
use Rattle.std.specs.Prelude.{All, slice_range}
use Rattle.std.specs.Cmp.Lexicographic.{slice_cmp}
use Rattle.std.specs.List.{AllWithin}
use Rattle.std.specs.Ordering.{MatchOrdering, is_lt, nat_cmp, ordering_then}
use Rattle.std.specs.declared.cmp.Ordering.{Ordering}
use Rattle.std.specs.declared.cmp.Ordering.TheVariants.{Less, Equal, Greater}
use Rattle.std.proofs.lemmas.Bool.{cases_Bool, cases_lt, false≢true}
use Rattle.std.proofs.lemmas.Cmp.{nat_cmp_total, nat_list_cmp_total, ranked, tied_itself}
use Rattle.std.proofs.lemmas.List.{get_or-drop, get_or-take, length-drop, length-take}
use Rattle.std.proofs.lemmas.List.Elements.{All-from_recursion}
use Rattle.bx_tree.specs.Below.{is_below}
use Rattle.bx_tree.specs.Paths.{Atoms, IsBelow, IsPath, path_text}
use Rattle.bx_tree.specs.Ranges.{AreFilePaths, prefix_below}
use Rattle.bx_tree.proofs.AncestorSearch.{less_from_is_lt}
use Rattle.bx_tree.proofs.BelowPaths.{below_decides}
use Rattle.bx_tree.proofs.PathTexts.{below_from_prefix}
use Rattle.bx_tree.proofs.SortedRanges.{starts_below}
use Rattle.bx_tree_paths.specs.Searches.{IsSlotOf}
use Rattle.bx_tree_paths.specs.Spans.{IsSpanOf, StartsBelow}

-- ## Texts that begin with a text and a `/`

-- a text does not come before one with which it begins
pub not_before : (prefix rest : List ℕ) → is_lt (slice_cmp nat_cmp (prefix ++ rest) prefix) ≡ false
not_before [] [] = refl
not_before [] (b ∷ bs) = refl
not_before (p ∷ ps) rest =
    ap (λ o. is_lt (ordering_then o (slice_cmp nat_cmp (ps ++ rest) ps))) (tied_itself nat_cmp_total p) ∙ not_before ps rest

-- a text that begins with a text and a `/` comes before that text and a `0`
pub before_next : (text rest : List ℕ) → is_lt (slice_cmp nat_cmp ((text ++ 47 ∷ []) ++ rest) (text ++ 48 ∷ [])) ≡ true
before_next [] rest = refl
before_next (t ∷ ts) rest =
    ap (λ o. is_lt (ordering_then o (slice_cmp nat_cmp ((ts ++ 47 ∷ []) ++ rest) (ts ++ 48 ∷ [])))) (tied_itself nat_cmp_total t)
    ∙ before_next ts rest

never_before_nothing : (text : List ℕ) → is_lt (slice_cmp nat_cmp text []) ≡ false
never_before_nothing [] = refl
never_before_nothing (b ∷ bs) = refl

-- a first byte that is between `/` and `0` is a `/`
first_between : (b : ℕ) (bs : List ℕ) (o p : Ordering) → nat_cmp b 47 ≡ o → nat_cmp b 48 ≡ p
    → MatchOrdering o (b < 47) (b ≡ 47) (47 < b) → MatchOrdering p (b < 48) (b ≡ 48) (48 < b)
    → is_lt (ordering_then (nat_cmp b 47) (slice_cmp nat_cmp bs [])) ≡ false
    → is_lt (ordering_then (nat_cmp b 48) (slice_cmp nat_cmp bs [])) ≡ true → b ≡ 47
first_between b bs Less p e f h k after before =
    absurd (false≢true (sym after ∙ ap (λ o. is_lt (ordering_then o (slice_cmp nat_cmp bs []))) e))
first_between b bs Equal p e f h k after before = h
first_between b bs Greater Less e f h k after before = absurd (omega (arith, h, k))
first_between b bs Greater Equal e f h k after before =
    absurd (false≢true (sym (ap (λ o. is_lt (ordering_then o (slice_cmp nat_cmp bs []))) f ∙ never_before_nothing bs) ∙ before))
first_between b bs Greater Greater e f h k after before =
    absurd (false≢true (sym (ap (λ o. is_lt (ordering_then o (slice_cmp nat_cmp bs []))) f) ∙ before))

equal_number : (x y : ℕ) (o : Ordering) → MatchOrdering o (x < y) (x ≡ y) (y < x) → o ≡ Equal → x ≡ y
equal_number x y Less h e = cc
equal_number x y Equal h e = h
equal_number x y Greater h e = cc

-- a text that comes not before a text and a `/`, but before that text and a `0`, begins with that text and a `/`
between_them : (text other : List ℕ) → is_lt (slice_cmp nat_cmp other (text ++ 47 ∷ [])) ≡ false
    → is_lt (slice_cmp nat_cmp other (text ++ 48 ∷ [])) ≡ true → (rest : List ℕ) × (other ≡ (text ++ 47 ∷ []) ++ rest)
between_them [] [] after before = absurd (false≢true (sym after))
between_them [] (b ∷ bs) after before =
    let same = first_between b bs (nat_cmp b 47) (nat_cmp b 48) refl refl (ranked b 47 (nat_cmp b 47) refl)
    (ranked b 48 (nat_cmp b 48) refl) after before in
    (bs, ap (λ x. x ∷ bs) same)
between_them (t ∷ ts) [] after before = absurd (false≢true (sym after))
between_them (t ∷ ts) (b ∷ bs) after before = by_first (nat_cmp b t) refl (between_them ts bs)
  where
    by_first : (o : Ordering) → nat_cmp b t ≡ o
        → (is_lt (slice_cmp nat_cmp bs (ts ++ 47 ∷ [])) ≡ false → is_lt (slice_cmp nat_cmp bs (ts ++ 48 ∷ [])) ≡ true
        → (rest : List ℕ) × (bs ≡ (ts ++ 47 ∷ []) ++ rest))
        → (rest : List ℕ) × (b ∷ bs ≡ ((t ∷ ts) ++ 47 ∷ []) ++ rest)
    by_first Less e tails =
        absurd (false≢true (sym after ∙ ap (λ o. is_lt (ordering_then o (slice_cmp nat_cmp bs (ts ++ 47 ∷ [])))) e))
    by_first Greater e tails =
        absurd (false≢true (sym (ap (λ o. is_lt (ordering_then o (slice_cmp nat_cmp bs (ts ++ 48 ∷ [])))) e) ∙ before))
    by_first Equal e tails =
        let same = equal_number b t (nat_cmp b t) (ranked b t (nat_cmp b t) refl) e in
        let more = tails
        (sym (ap (λ o. is_lt (ordering_then o (slice_cmp nat_cmp bs (ts ++ 47 ∷ [])))) e) ∙ after)
        (sym (ap (λ o. is_lt (ordering_then o (slice_cmp nat_cmp bs (ts ++ 48 ∷ [])))) e) ∙ before) in
        (more.0, ap (λ x. x ∷ bs) same ∙ ap (λ xs. t ∷ xs) more.1)

-- what comes before a text and a `/` comes before that text and a `0`
both_before : (text other : List ℕ) → is_lt (slice_cmp nat_cmp other (text ++ 47 ∷ [])) ≡ true
    → is_lt (slice_cmp nat_cmp other (text ++ 48 ∷ [])) ≡ true
both_before text other before =
    let slash = text ++ 47 ∷ [] in
    let next = text ++ 48 ∷ [] in
    let later : is_lt (slice_cmp nat_cmp slash next) ≡ true =
    ap (λ t. is_lt (slice_cmp nat_cmp t next)) (sym (append_nil_right slash)) ∙ before_next text [] in
    ap is_lt (nat_list_cmp_total.trans other slash next (less_from_is_lt (slice_cmp nat_cmp other slash) before)
    (less_from_is_lt (slice_cmp nat_cmp slash next) later))
  where
    append_nil_right : (xs : List ℕ) → xs ++ [] ≡ xs
    append_nil_right [] = refl
    append_nil_right (x ∷ xs) = ap (λ ys. x ∷ ys) (append_nil_right xs)

-- ## Lists that rise by path

some_item : {X : Type 0} (items : List X) → 0 < length items → X
some_item [] less = absurd (omega (arith, less))
some_item (x ∷ xs) less = x

prefix_is : (dir : Atoms) → dir ≢ [] → prefix_below dir ≡ path_text dir ++ 47 ∷ []
prefix_is [] some = absurd (some refl)
prefix_is (atom ∷ rest) some = refl

module _ {X : Type 0} (path : X → Atoms) (dir : Atoms) (items : List X) where
  -- the items between where the directory's text and a `/`, and where that text and a `0` belong
  pub spanned : (from to : ℕ) (a b : Bool) → dir ≢ [] → IsSlotOf path (path_text dir ++ 47 ∷ []) items from a
      → IsSlotOf path (path_text dir ++ 48 ∷ []) items to b → IsSpanOf (λ x. StartsBelow dir (path x)) items from to
  spanned from to a b some low high = record {
    order = ordered (cases_lt to from);
    within = high.within;
    inside = λ k d above below.
        let rest = between_them (path_text dir) (path_text (path (get_or items k d)))
        (low.point.1 k d above (omega (arith, below, high.within))) (high.point.0 k d (omega arith) below) in
        (rest.0, rest.1 ∙ ap (λ p. p ++ rest.0) (sym (prefix_is dir some)));
    before = λ k d above below starts. absurd (false≢true
        (sym (not_before (path_text dir ++ 47 ∷ []) starts.0)
        ∙ ap (λ t. is_lt (slice_cmp nat_cmp t (path_text dir ++ 47 ∷ []))) (sym (starts.1 ∙ ap (λ p. p ++ starts.0) (prefix_is dir some)))
        ∙ low.point.0 k d above below));
    after = λ k d above below starts. absurd (false≢true
        (sym (high.point.1 k d above below)
        ∙ ap (λ t. is_lt (slice_cmp nat_cmp t (path_text dir ++ 48 ∷ []))) (starts.1 ∙ ap (λ p. p ++ starts.0) (prefix_is dir some))
        ∙ before_next (path_text dir) starts.0));
  }
    where
      ordered : (to < from) ⊎ (from ≤ to) → from ≤ to
      ordered (inr fine) = fine
      ordered (inl less) =
          let d = some_item items (omega (arith, less, low.within)) in
          let there = path_text (path (get_or items to d)) in
          absurd (false≢true
          (sym (high.point.1 to d (omega arith) (omega (arith, less, low.within)))
          ∙ both_before (path_text dir) there (low.point.0 to d (omega arith) less)))

  -- below the root each text begins so
  pub all_spanned : dir ≡ [] → IsSpanOf (λ x. StartsBelow dir (path x)) items 0 (length items)
  all_spanned root = record {
    order = omega arith;
    within = omega arith;
    inside = λ k d above below. (path_text (path (get_or items k d)), ap (λ p. prefix_below p ++ path_text (path (get_or items k d))) (sym root));
    before = λ k d above below. absurd (omega (arith, below));
    after = λ k d above below. absurd (omega (arith, above, below));
  }

-- ## What passes a test in a range

skip : {X : Type 0} (p : X → Bool) (n : ℕ) (xs : List X) → AllWithin (λ x. p x ≡ false) xs 0 n → n ≤ length xs → filter p (drop n xs) ≡ filter p xs
skip p zero xs h l = refl
skip p (suc n) [] h l = absurd (omega (arith, l))
skip p (suc n) (x ∷ xs) h l =
    skip p n xs (λ k d from to. h (suc k) d (omega arith) (omega (arith, to))) (omega (arith, l))
    ∙ sym (ap (λ b. cond b (x ∷ filter p xs) (filter p xs)) (h 0 x (omega arith) (omega arith)))

stop : {X : Type 0} (p : X → Bool) (n : ℕ) (xs : List X) → AllWithin (λ x. p x ≡ false) xs n (length xs) → filter p (take n xs) ≡ filter p xs
stop p zero [] h = refl
stop p (suc n) [] h = refl
stop p zero (x ∷ xs) h =
    stop p zero xs (λ k d from to. h (suc k) d (omega arith) (omega (arith, to)))
    ∙ sym (ap (λ b. cond b (x ∷ filter p xs) (filter p xs)) (h 0 x (omega arith) (omega arith)))
stop p (suc n) (x ∷ xs) h =
    ap (λ ys. cond (p x) (x ∷ ys) ys) (stop p n xs (λ k d from to. h (suc k) d (omega (arith, from)) (omega (arith, to))))

-- a range has all that passes a test which only its items pass
pub filter_span : {X : Type 0} (S : X → Type 0) (p : X → Bool) (xs : List X) (from to : ℕ) → ((x : X) → p x ≡ true → S x)
    → IsSpanOf S xs from to → filter p (slice_range xs from to) ≡ filter p xs
filter_span {X = X} S p xs from to only h =
    stop p (to - from) (drop from xs) (λ k d above below. subst (λ x. p x ≡ false) (sym (get_or-drop from xs k d)) (out (get_or xs (from + k) d) (h.after (from + k) d (omega (arith, above, h.order)) (omega (arith, below, length-drop from xs, h.order, h.within)))))
    ∙ skip p from xs (λ k d above below. out (get_or xs k d) (h.before k d above below)) (omega (arith, h.order, h.within))
  where
    out : (x : X) → (S x → ⊥) → p x ≡ false
    out x never = elim (cases_Bool (p x)) [
      | inr fails ↦ fails
      | inl passes ↦ absurd (never (only x passes))
    ]

-- what lies below a directory begins as all that does
pub starts : (dir path : Atoms) → is_below path dir ≡ true → StartsBelow dir path
starts dir path e = starts_below dir path ((below_decides path dir).0 e)

range_size : {X : Type 0} (S : X → Type 0) (xs : List X) (from to : ℕ) → IsSpanOf S xs from to → length (slice_range xs from to) ≡ to - from
range_size S xs from to h = omega (arith, length-take (to - from) (drop from xs), length-drop from xs, h.order, h.within)

-- the items of the range are such
pub only_span : {X : Type 0} (S : X → Type 0) (xs : List X) (from to : ℕ) → IsSpanOf S xs from to → All S (slice_range xs from to)
only_span S xs from to h k d less =
    let size = range_size S xs from to h in
    subst S (sym (get_or-take (to - from) (drop from xs) k d (omega (arith, less, size)) ∙ get_or-drop from xs k d))
    (h.inside (from + k) d (omega arith) (omega (arith, less, size, h.order)))

all_kept : {X : Type 0} (p : X → Bool) (ys : List X) → ((k : ℕ) (d : X) → k < length ys → p (get_or ys k d) ≡ true) → filter p ys ≡ ys
all_kept p [] h = refl
all_kept p (y ∷ ys) h =
    ap (λ b. cond b (y ∷ filter p ys) (filter p ys)) (h 0 y (omega arith))
    ∙ ap (λ zs. y ∷ zs) (all_kept p ys (λ k d less. h (suc k) d (omega (arith, less))))

-- a range of which all pass a test that only they pass
pub exact_span : {X : Type 0} (S : X → Type 0) (p : X → Bool) (xs : List X) (from to : ℕ) → ((x : X) → p x ≡ true → S x) → ((x : X) → S x → p x ≡ true)
    → IsSpanOf S xs from to → slice_range xs from to ≡ filter p xs
exact_span S p xs from to only all h =
    sym (all_kept p (slice_range xs from to) (λ k d less. all (get_or (slice_range xs from to) k d) (only_span S xs from to h k d less)))
    ∙ filter_span S p xs from to only h

-- ## Paths

start_below : (dir path : Atoms) → IsPath dir → IsPath path → path ≢ [] → StartsBelow dir path → IsBelow path dir
start_below [] path h k some (rest, e) = (path, some, refl)
start_below (a ∷ as') path h k some (rest, e) =
    below_from_prefix path (a ∷ as') k h (λ z. cc) rest (e ∙ append_assoc (path_text (a ∷ as')) (codes "/") rest)

-- of paths of files, those that begin as the paths below a directory do are those below it
pub below_span : (dir : Atoms) (paths : List Atoms) (from to : ℕ) → IsPath dir → AreFilePaths paths
    → IsSpanOf (StartsBelow dir) paths from to → IsSpanOf (λ path. IsBelow path dir) paths from to
below_span dir paths from to h are s = record {
  order = s.order;
  within = s.within;
  inside = λ k d above below. start_below dir (get_or paths k d) h
      (All-from_recursion IsPath paths are.are_paths k d (omega (arith, below, s.within)))
      (All-from_recursion (λ path. path ≢ []) paths are.no_root k d (omega (arith, below, s.within))) (s.inside k d above below);
  before = λ k d above below is. s.before k d above below (starts_below dir (get_or paths k d) is);
  after = λ k d above below is. s.after k d above below (starts_below dir (get_or paths k d) is);
}
