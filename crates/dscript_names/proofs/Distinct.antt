-- Where a sorted list is cut to one of each, its length shows whether an element was there twice.
use Rattle.std.proofs.Common.{◌≡◌, suc, ◌<◌, ◌≤◌, Bool, true, false, ◌||◌, List, [], ◌∷◌, length, map, cond, refl, sym, ap, ◌∙◌, arith, inl, inr, nat_lt}
use borrow.Author.Tests.{ltb-true, ltb-false}
use Rattle.std.proofs.lemmas.Bool.{cases_Bool, or_parts}
use Rattle.std.proofs.lemmas.List.Kept.{IsStrictlySortedBy-dedup}
use Rattle.std.proofs.lemmas.List.Sorted.{IsPermutation-sym, length_permutation}
use Rattle.std.proofs.lemmas.Map.Keys.{IsDistinct-IsPermutation, IsDistinct-cons, IsDistinct-from_apart, IsDistinct-from_sorted}
use Rattle.std.proofs.lemmas.Map.Keys.{IsDistinct-head, IsDistinct-tail}
use Rattle.std.specs.Cmp.{IsTotalOrder}
use Rattle.std.specs.List.{AllByRecursion, IsDistinct, dedup, dedup_from, list_any}
use Rattle.std.specs.List.Sorted.{IsPermutation, IsSorted}
use Rattle.std.specs.Ordering.{eq_by_cmp}
use Rattle.std.specs.declared.cmp.Ordering.{Ordering}
use Rattle.bx_tree.proofs.Lists.{distinct_by}
use Rattle.dscript_names_scopes.specs.Duplicates.{has_repeat}

-- ## No element is there twice

none_any : {X : Type 0} (p : X → Bool) (xs : List X) → AllByRecursion (λ y. p y ≡ false) xs → list_any p xs ≡ false
none_any p [] h = refl
none_any p (x ∷ xs) h = ap (λ b. b || list_any p xs) h.0 ∙ none_any p xs h.1

any_none : {X : Type 0} (p : X → Bool) (xs : List X) → list_any p xs ≡ false → AllByRecursion (λ y. p y ≡ false) xs
any_none p [] e = tt
any_none p (x ∷ xs) e = let h = or_parts (p x) (list_any p xs) e in (h.0, any_none p xs h.1)

distinct_once : {X : Type 0} (same : X → X → Bool) (xs : List X) → IsDistinct same xs → has_repeat same xs ≡ false
distinct_once same [] h = refl
distinct_once same (x ∷ xs) h =
    ap (λ b. b || has_repeat same xs) (none_any (same x) xs (IsDistinct-head same x xs h))
    ∙ distinct_once same xs (IsDistinct-tail same x xs h)

none_distinct : {X : Type 0} (same : X → X → Bool) → IsDistinct same []
none_distinct same = IsDistinct-from_apart same [] (λ i j d before within. absurd (omega arith))

once_distinct : {X : Type 0} (same : X → X → Bool) (xs : List X) → has_repeat same xs ≡ false → IsDistinct same xs
once_distinct same [] e = none_distinct same
once_distinct same (x ∷ xs) e =
    let h = or_parts (list_any (same x) xs) (has_repeat same xs) e in
    IsDistinct-cons same x xs (any_none (same x) xs h.0) (once_distinct same xs h.1)

-- ## One of each

one_length : {X : Type 0} (same : X → X → Bool) (xs : List X) (k : X)
    → length (dedup_from same k xs) ≤ suc (length xs)
one_length same [] k = omega arith
one_length same (x ∷ xs) k =
    elim (same x k) as (λ b. length (cond b (dedup_from same k xs) (k ∷ dedup_from same x xs)) ≤ suc (suc (length xs))) [
      | true ↦ omega (arith, one_length same xs k)
      | false ↦ omega (arith, one_length same xs x)
    ]

-- where nothing is cut, all is there
uncut_step : {X : Type 0} (same : X → X → Bool) (xs : List X) (x k : X) (b : Bool)
    → suc (suc (length xs)) ≤ length (cond b (dedup_from same k xs) (k ∷ dedup_from same x xs))
    → (suc (length xs) ≤ length (dedup_from same x xs) → dedup_from same x xs ≡ x ∷ xs)
    → cond b (dedup_from same k xs) (k ∷ dedup_from same x xs) ≡ k ∷ x ∷ xs
uncut_step same xs x k true l more = absurd (omega (arith, one_length same xs k, l))
uncut_step same xs x k false l more = ap (λ ys. k ∷ ys) (more (omega (arith, l)))

uncut_from : {X : Type 0} (same : X → X → Bool) (xs : List X) (k : X)
    → suc (length xs) ≤ length (dedup_from same k xs) → dedup_from same k xs ≡ k ∷ xs
uncut_from same [] k l = refl
uncut_from same (x ∷ xs) k l = uncut_step same xs x k (same x k) l (uncut_from same xs x)

uncut : {X : Type 0} (same : X → X → Bool) (xs : List X) → length xs ≤ length (dedup same xs) → dedup same xs ≡ xs
uncut same [] l = refl
uncut same (x ∷ xs) l = uncut_from same xs x l

-- where no element is there twice, nothing is cut
kept_from : {X : Type 0} (same : X → X → Bool) → ((x y : X) → same x y ≡ same y x) → (xs : List X) (k : X)
    → IsDistinct same (k ∷ xs) → dedup_from same k xs ≡ k ∷ xs
kept_from same turned [] k h = refl
kept_from same turned (x ∷ xs) k h =
    ap (λ b. cond b (dedup_from same k xs) (k ∷ dedup_from same x xs)) (turned x k ∙ (IsDistinct-head same k (x ∷ xs) h).0)
    ∙ ap (λ ys. k ∷ ys) (kept_from same turned xs x (IsDistinct-tail same k (x ∷ xs) h))

kept : {X : Type 0} (same : X → X → Bool) → ((x y : X) → same x y ≡ same y x) → (xs : List X)
    → IsDistinct same xs → dedup same xs ≡ xs
kept same turned [] h = refl
kept same turned (x ∷ xs) h = kept_from same turned xs x h

-- ## What the length shows

pub fewer_repeat : {X : Type 0} (same : X → X → Bool) (R : X → X → Ordering) → IsTotalOrder R
    → ((x y : X) → same x y ≡ eq_by_cmp R x y) → ((x y : X) → same x y ≡ same y x)
    → (items sorted : List X) → IsPermutation items sorted → IsSorted R sorted
    → length (dedup same sorted) < length items → has_repeat same items ≡ true
fewer_repeat same R total ties turned items sorted moved rising fewer =
    elim (cases_Bool (has_repeat same items)) [
      | inl t ↦ t
      | inr f ↦
          let apart = IsDistinct-IsPermutation same turned items sorted moved (once_distinct same items f) in
          let e : length (dedup same sorted) ≡ length sorted = ap length (kept same turned sorted apart) in
          let n : length sorted ≡ length items = length_permutation items sorted moved in
          absurd (omega (arith, e, n, fewer))
    ]

pub whole_once : {X : Type 0} (same : X → X → Bool) (R : X → X → Ordering) → IsTotalOrder R
    → ((x y : X) → same x y ≡ eq_by_cmp R x y) → ((x y : X) → same x y ≡ same y x)
    → (items sorted : List X) → IsPermutation items sorted → IsSorted R sorted
    → length items ≤ length (dedup same sorted) → has_repeat same items ≡ false
whole_once same R total ties turned items sorted moved rising whole =
    let n : length sorted ≡ length items = length_permutation items sorted moved in
    let e = uncut same sorted (omega (arith, n, whole)) in
    let strictly = IsStrictlySortedBy-dedup total ties sorted rising in
    let apart = IsDistinct-from_sorted R sorted (rw e at strictly) in
    let own = distinct_by same (eq_by_cmp R) ties sorted apart in
    distinct_once same items
    (IsDistinct-IsPermutation same turned sorted items (IsPermutation-sym items sorted moved) own)

-- whether fewer are left shows whether one was there twice
pub repeat_shown : {X : Type 0} (same : X → X → Bool) (R : X → X → Ordering) → IsTotalOrder R
    → ((x y : X) → same x y ≡ eq_by_cmp R x y) → ((x y : X) → same x y ≡ same y x)
    → (items sorted left : List X) → IsPermutation items sorted → IsSorted R sorted → left ≡ dedup same sorted
    → (fewer : Bool) → nat_lt (length left) (length items) ≡ fewer → fewer ≡ has_repeat same items
repeat_shown same R total ties turned items sorted left moved rising is true e =
    let l = ltb-true (length left) (length items) e in
    let m : length (dedup same sorted) < length items = rw is at l in
    sym (fewer_repeat same R total ties turned items sorted moved rising m)
repeat_shown same R total ties turned items sorted left moved rising is false e =
    let l = ltb-false (length left) (length items) e in
    let m : length items ≤ length (dedup same sorted) = rw is at l in
    sym (whole_once same R total ties turned items sorted moved rising m)

-- ## Elements by what they have

any_mapped : {X Y : Type 0} (p : Y → Bool) (f : X → Y) (xs : List X) → list_any (λ x. p (f x)) xs ≡ list_any p (map f xs)
any_mapped p f [] = refl
any_mapped p f (x ∷ xs) = ap (λ b. p (f x) || b) (any_mapped p f xs)

pub repeat_mapped : {X Y : Type 0} (same : Y → Y → Bool) (f : X → Y) (xs : List X)
    → has_repeat (λ x y. same (f x) (f y)) xs ≡ has_repeat same (map f xs)
repeat_mapped same f [] = refl
repeat_mapped same f (x ∷ xs) =
    ap (λ b. b || has_repeat (λ x y. same (f x) (f y)) xs) (any_mapped (same (f x)) f xs)
    ∙ ap (λ b. list_any (same (f x)) (map f xs) || b) (repeat_mapped same f xs)
