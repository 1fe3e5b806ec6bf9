-- Stored answers, found by search in their path set.
use Rattle.std.proofs.Common.{inl, inr, ◌≡◌, ◌≢◌, ℕ, ◌<◌, ◌+◌, zero, suc, Bool, true, false, cond, List, [], ◌∷◌, length, get_or, refl, ap, sym, ◌∙◌, subst, arith, Ok, Err, Result}
use Rattle.std.specs.declared.cmp.Ordering.{Ordering}
use Rattle.std.specs.declared.cmp.Ordering.TheVariants.{Less, Equal, Greater}
use Rattle.std.specs.List.{All, AllByRecursion, HoldsAt}
use Rattle.std.specs.List.Sorted.{IsSortedBy, IsStrictlySortedBy, IsBinarySearchResult, IsSearchInRange}
use Rattle.std.specs.Result.{MatchResult}
use Rattle.std.specs.Bool.{Decides}
use Rattle.std.specs.Cmp.Lexicographic.{pointwise}
use Rattle.std.proofs.lemmas.Slice.Eq.{slice_eq-Decides}
use Rattle.std.specs.Ordering.{is_eq, is_lt, ordering_reverse}
use Rattle.std.proofs.lemmas.Bool.{cases_lt}
use Rattle.std.proofs.lemmas.Cmp.{tied_itself}
use Rattle.std.proofs.lemmas.List.Sorted.{searchable_from_sorted}
use Rattle.std.proofs.lemmas.Map.Keys.{Less-from_sorted}
use Rattle.observed.specs.Asks.{ask_cmp, same_ask}
use Rattle.observed.specs.Orders.{ask_cmp_matches, ask_cmp_total, equal_asks, same_ask_is, same_ask_itself}
use Rattle.observed.specs.declared.ask.Ask.{Ask}
use Rattle.observed.specs.declared.access.Answer.{Answer}
use Rattle.observed.specs.declared.access.Answer.TheVariants as answers
use Rattle.run_record.specs.Answered.{answered}

-- what strictly rises does not fall
sorted_asks : (xs : List Ask) → IsStrictlySortedBy ask_cmp xs → IsSortedBy (λ (a b : Ask). is_lt (ask_cmp a b)) xs
sorted_asks xs up k d low l =
    let less = Less-from_sorted ask_cmp xs k (k + 1) d up (omega arith) l in
    ap is_lt (ask_cmp_total.antisymm (get_or xs (k + 1) d) (get_or xs k d) ∙ ap ordering_reverse less)

not_level : (p q : Ask) (o : Ordering) → (o ≡ Equal → ⊥) → ask_cmp p q ≡ o → p ≡ q → ⊥
not_level p q o n h e = n (sym h ∙ subst (λ (r : Ask). ask_cmp p r ≡ Equal) e (tied_itself ask_cmp_total p))

place_of : (xs : List Ask) (q : Ask) (r : Result ℕ ℕ) → IsStrictlySortedBy ask_cmp xs
    → IsSearchInRange r (length xs) → IsBinarySearchResult (λ (x : Ask). ask_cmp x q) xs r
    → MatchResult r (λ i. (i < length xs) × HoldsAt (λ (x : Ask). x ≡ q) xs i) (λ i. All (λ (x : Ask). x ≢ q) xs)
place_of xs q (Ok i) up l h = (l, λ d. equal_asks (get_or xs i d) q (h d))
place_of xs q (Err i) up l h =
    let parts = h (searchable_from_sorted ask_cmp_total (λ (a : Ask). a) xs q (sorted_asks xs up)) in
    λ k d in'. elim (cases_lt k i) [
      | inl low ↦ not_level (get_or xs k d) q Less (λ e. cc) (parts.0 k d (omega arith) low)
      | inr high ↦ not_level (get_or xs k d) q Greater (λ e. cc) (parts.1 k d high in')
    ]

-- ## The answer that is stored for an ask

above : (x q : Ask) (xs : List Ask) (i : ℕ) (d : Ask) → i < length xs → get_or xs i d ≡ q → AllByRecursion (λ (y : Ask). ask_cmp x y ≡ Less) xs → ask_cmp x q ≡ Less
above x q [] i d l e h = absurd (omega (arith, l))
above x q (y ∷ ys) zero d l e h = subst (λ (z : Ask). ask_cmp x z ≡ Less) e h.0
above x q (y ∷ ys) (suc i) d l e h = above x q ys i d (omega (arith, l)) e h.1

stored_at : (xs : List Ask) (stored : List Answer) (q : Ask) (i : ℕ) (d : Ask) (x : Answer) → IsStrictlySortedBy ask_cmp xs → length stored ≡ length xs
    → i < length xs → get_or xs i d ≡ q → answered xs stored q ≡ get_or stored i x
unfolding IsStrictlySortedBy
stored_at [] stored q i d x up n l e = absurd (omega (arith, l))
stored_at (y ∷ ys) [] q i d x up n l e = absurd (omega (arith, n))
stored_at (y ∷ ys) (a ∷ stored) q zero d x up n l e =
    ap (λ t. cond t a (answered ys stored q)) (subst (λ (z : Ask). same_ask y z ≡ true) e (same_ask_itself y))
stored_at (y ∷ ys) (a ∷ stored) q (suc i) d x up n l e =
    ap (λ t. cond t a (answered ys stored q)) (ask_cmp_matches y q ∙ ap is_eq (above y q ys i d (omega (arith, l)) e up.0))
    ∙ stored_at ys stored q i d x up.1 (omega (arith, n)) (omega (arith, l)) e

none_here : (t : Bool) (y q : Ask) (a other : Answer) → same_ask y q ≡ t → y ≢ q → other ≡ answers.Absent → cond t a other ≡ answers.Absent
none_here true y q a other same differ rest = absurd (differ (same_ask_is y q same))
none_here false y q a other same differ rest = rest

none_stored : (xs : List Ask) (stored : List Answer) (q : Ask) → All (λ (x : Ask). x ≢ q) xs → answered xs stored q ≡ answers.Absent
none_stored [] stored q h = refl
none_stored (y ∷ ys) [] q h = refl
none_stored (y ∷ ys) (a ∷ stored) q h =
    none_here (same_ask y q) y q a (answered ys stored q) refl (h 0 y (omega arith))
    (none_stored ys stored q (λ k d l. h (suc k) d (omega (arith, l))))

-- ## What a search answers

pub found_there : (paths asks : List Ask) (stored : List Answer) (q : Ask) (i : ℕ) (x : Answer) → asks ≡ paths → IsStrictlySortedBy ask_cmp paths
    → length stored ≡ length paths → i < length asks → ((d : Ask) → ask_cmp (get_or asks i d) q ≡ Equal) → x ≡ get_or stored i x → x ≡ answered paths stored q
found_there paths asks stored q i x same up n l at is =
    is ∙ sym (stored_at paths stored q i q x up n (subst (λ (as' : List Ask). i < length as') same l)
    (equal_asks (get_or paths i q) q (subst (λ (as' : List Ask). ask_cmp (get_or as' i q) q ≡ Equal) same (at q))))

pub not_there : (paths asks : List Ask) (stored : List Answer) (q : Ask) (i : ℕ) → asks ≡ paths → IsStrictlySortedBy ask_cmp paths
    → IsSearchInRange (Err i) (length asks) → IsBinarySearchResult (λ (x : Ask). ask_cmp x q) asks (Err i) → answers.Absent ≡ answered paths stored q
not_there paths asks stored q i same up l h =
    sym (none_stored paths stored q (subst (λ (as' : List Ask). All (λ (x : Ask). x ≢ q) as') same
    (place_of asks q (Err i) (subst (IsStrictlySortedBy ask_cmp) (sym same) up) l h)))

-- ## Equal path sets

ask_decides : (x y : Ask) → Decides (same_ask x y) (x ≡ y)
ask_decides x y = (same_ask_is x y, λ e. subst (λ (z : Ask). same_ask x z ≡ true) e (same_ask_itself x))

pub sets_decide : (xs ys : List Ask) (r : Bool) → r ≡ pointwise same_ask xs ys → Decides r (xs ≡ ys)
sets_decide xs ys r e = slice_eq-Decides ask_decides xs ys r e
