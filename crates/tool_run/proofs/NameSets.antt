-- Sets of names that lists of names are added to, and the lists that are such sets.
use Rattle.std.proofs.Common.{◌≡◌, ◌⊎◌, ◌∙◌, ◌+◌, ◌<◌, ◌==◌, ℕ, Bool, true, false, List, [], ◌∷◌, ◌++◌, length, get_or, map, refl, ap, sym, inl, inr, arith}
use Rattle.std.specs.Cmp.Lexicographic.{slice_cmp}
use Rattle.std.specs.BTreeSet.{insert_key}
use Rattle.std.specs.Borrow.{Bor}
use Rattle.std.specs.List.{AllByRecursion, IsAllAdjacentAnswer}
use Rattle.std.specs.List.Sorted.{IsStrictlySortedBy}
use Rattle.std.specs.Ordering.{is_lt, nat_cmp}
use Rattle.std.specs.declared.cmp.Ordering.{Ordering}
use Rattle.std.specs.declared.cmp.Ordering.TheVariants.{Less, Equal, Greater}
use Rattle.std.proofs.lemmas.Cmp.{nat_list_cmp_total}
use Rattle.std.proofs.lemmas.List.{length-map, get_or-map, map-append}
use Rattle.std.proofs.lemmas.Map.Keys.{sorted_from_all_adjacent}
use Rattle.bx_tree.specs.Lent.{texts_now}
use Rattle.bx_tree.specs.Sets.{IsSetUpTo}
use Rattle.bx_tree.specs.Orders.{equal_texts}
use Rattle.bx_tree.specs.Members.{Has}
use Rattle.bx_tree.proofs.Sets.{contains_has, has_contained, has_insert, insert_has, insert_sorted, unique, never_both}
use Rattle.tool_run.specs.Listings.{add_names, listed, names_in, names_text}
use Rattle.tool_run.specs.NameSets.{IsNameSet}

pub set_kept : (names set : List (List ℕ)) → IsNameSet set → IsNameSet (add_names set names)
set_kept [] set up = up
set_kept (name ∷ names) set up = set_kept names (insert_key (slice_cmp nat_cmp) set name) (insert_sorted nat_list_cmp_total set name up)

added_has : (names set : List (List ℕ)) (n : List ℕ) → Has (add_names set names) n → Has set n ⊎ Has names n
added_has [] set n h = inl h
added_has (name ∷ names) set n h = elim (added_has names (insert_key (slice_cmp nat_cmp) set name) n h) [
  | inl old ↦ elim (has_insert (slice_cmp nat_cmp) set name n old) [ inl e ↦ inr (inl e) | inr k ↦ inl k ]
  | inr new ↦ inr (inr new)
]

has_added : (names set : List (List ℕ)) (n : List ℕ) → Has set n ⊎ Has names n → Has (add_names set names) n
has_added [] set n (inl h) = h
has_added [] set n (inr h) = absurd h
has_added (name ∷ names) set n (inl h) =
    has_added names (insert_key (slice_cmp nat_cmp) set name) n (inl (insert_has (slice_cmp nat_cmp) equal_texts set name n (inr h)))
has_added (name ∷ names) set n (inr (inl e)) =
    has_added names (insert_key (slice_cmp nat_cmp) set name) n (inl (insert_has (slice_cmp nat_cmp) equal_texts set name n (inl e)))
has_added (name ∷ names) set n (inr (inr h)) = has_added names (insert_key (slice_cmp nat_cmp) set name) n (inr h)

pub added_after : (xs ys set : List (List ℕ)) → add_names set (xs ++ ys) ≡ add_names (add_names set xs) ys
added_after [] ys set = refl
added_after (x ∷ xs) ys set = added_after xs ys (insert_key (slice_cmp nat_cmp) set x)

-- lists whose names differ only in names that the set has make one set of it
pub one_addition : (set xs ys : List (List ℕ)) → IsNameSet set → ((n : List ℕ) → Has xs n → Has set n ⊎ Has ys n) → ((n : List ℕ) → Has ys n → Has set n ⊎ Has xs n)
    → add_names set xs ≡ add_names set ys
one_addition set xs ys up into back = unique (slice_cmp nat_cmp) (never_both nat_list_cmp_total) (add_names set xs) (add_names set ys) (set_kept xs set up) (set_kept ys set up)
    (λ n h. has_added ys set n (moved xs ys n into (added_has xs set n h)))
    (λ n h. has_added xs set n (moved ys xs n back (added_has ys set n h)))
  where
    moved : (us vs : List (List ℕ)) (n : List ℕ) → ((m : List ℕ) → Has us m → Has set m ⊎ Has vs m) → Has set n ⊎ Has us n → Has set n ⊎ Has vs n
    moved us vs n f (inl h) = inl h
    moved us vs n f (inr h) = f n h

pub set_has : (names : List (List ℕ)) (n : List ℕ) → Has names n → Has (add_names [] names) n
set_has names n h = has_added names [] n (inr h)

-- ## Lists that are sets

none_rise : IsNameSet []
unfolding IsStrictlySortedBy
none_rise = tt

-- a set that has the names of a list, and no others, is what adding them makes
one_set : (set names : List (List ℕ)) → IsNameSet set → ((n : List ℕ) → Has set n → Has names n) → ((n : List ℕ) → Has names n → Has set n) → set ≡ add_names [] names
one_set set names up into back = unique (slice_cmp nat_cmp) (never_both nat_list_cmp_total) set (add_names [] names) up (set_kept names [] none_rise)
    (λ n h. set_has names n (into n h))
    (λ n h. elim (added_has names [] n h) [ inl a ↦ absurd a | inr k ↦ back n k ])

-- names that rise
pub own_set : (names : List (List ℕ)) → IsNameSet names → names ≡ add_names [] names
own_set names up = one_set names names up (λ n h. h) (λ n h. h)

lent_has : (names : List (Bor (List ℕ))) (n : List ℕ) → Has (texts_now names) n → (x : Bor (List ℕ)) × Has names x × (x.now ≡ n)
lent_has [] n h = absurd h
lent_has (x ∷ xs) n h = elim h [ inl e ↦ (x, inl refl, e) | inr k ↦ let t = lent_has xs n k in (t.0, inr t.1, t.2) ]

has_lent : (names : List (Bor (List ℕ))) (x : Bor (List ℕ)) (n : List ℕ) → Has names x → x.now ≡ n → Has (texts_now names) n
has_lent [] x n h e = absurd h
has_lent (y ∷ ys) x n h e = elim h [ inl s ↦ inl (ap (λ (z : Bor (List ℕ)). z.now) s ∙ e) | inr k ↦ inr (has_lent ys x n k e) ]

texts_above : (x : List ℕ) (ys : List (Bor (List ℕ))) → AllByRecursion (λ (y : Bor (List ℕ)). slice_cmp nat_cmp x y.now ≡ Less) ys
    → AllByRecursion (λ t. slice_cmp nat_cmp x t ≡ Less) (texts_now ys)
texts_above x [] all = tt
texts_above x (y ∷ ys) all = (all.0, texts_above x ys all.1)

texts_rise : (names : List (Bor (List ℕ))) → IsStrictlySortedBy (λ (x y : Bor (List ℕ)). slice_cmp nat_cmp x.now y.now) names → IsNameSet (texts_now names)
unfolding IsStrictlySortedBy
texts_rise [] up = tt
texts_rise (x ∷ xs) up = (texts_above x.now xs up.0, texts_rise xs up.1)

-- lent names in order, each once
pub lent_set : (E : Bor (List ℕ) → Bor (List ℕ) → Bool) (names set : List (Bor (List ℕ))) → ((x y : Bor (List ℕ)) → E x y ≡ true → x.now ≡ y.now)
    → IsSetUpTo E (λ (x y : Bor (List ℕ)). slice_cmp nat_cmp x.now y.now) names set → texts_now set ≡ add_names [] (texts_now names)
lent_set E names set same h = one_set (texts_now set) (texts_now names) (texts_rise set h.rising)
    (λ n m. let t = lent_has set n m in has_lent names t.0 n (has_contained names t.0 (h.kept t.0 (contains_has set t.0 t.1))) t.2)
    (λ n m.
    let t = lent_has names n m in
    let y = h.all t.0 (contains_has names t.0 t.1) in
    has_lent set y.0 n (has_contained set y.0 y.1) (sym (same t.0 y.0 y.2) ∙ t.2))

less_from : (o : Ordering) → true ≡ is_lt o → o ≡ Less
less_from Less e = refl
less_from Equal e = cc
less_from Greater e = cc

-- names of which each comes before the next one
pub lent_rise : (names : List (Bor (List ℕ))) (r : Bool)
    → IsAllAdjacentAnswer (λ (x y : Bor (List ℕ)) b. b ≡ is_lt (slice_cmp nat_cmp x.now y.now)) names r → r ≡ true → IsNameSet (texts_now names)
lent_rise [] true h e = none_rise
lent_rise (x ∷ xs) true h e =
    let all : List (Bor (List ℕ)) = x ∷ xs in
    let text : Bor (List ℕ) → List ℕ = λ y. y.now in
    sorted_from_all_adjacent nat_list_cmp_total (texts_now all) []
    (λ k l.
    let in' : k + 1 < length all = omega (arith, l, length-map all text) in
    rw (get_or-map text all k x [] (omega arith), get_or-map text all (k + 1) x [] in') (less_from _ (h k x in')))
lent_rise names false h e = absurd cc

-- names of two lists, one after the other
pub both_sets : (names own both : List (Bor (List ℕ))) → both ≡ names ++ own
    → add_names [] (texts_now both) ≡ add_names (add_names [] (texts_now names)) (texts_now own)
both_sets names own both e =
    ap (λ (ns : List (Bor (List ℕ))). add_names [] (texts_now ns)) e
    ∙ ap (add_names []) (map-append (λ (x : Bor (List ℕ)). x.now) names own)
    ∙ added_after (texts_now names) (texts_now own) []

-- a listing with more names, where there are some
pub listed_more : (seen : List ℕ) (own : List (Bor (List ℕ))) → (length own ≡ 0 → ⊥)
    → names_text (add_names (add_names [] (names_in seen)) (texts_now own)) ≡ listed seen (texts_now own)
listed_more seen [] some = absurd (some refl)
listed_more seen (x ∷ xs) some = refl
