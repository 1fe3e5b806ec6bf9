-- Two lists that strictly rise and have equal members are equal, and insertion keeps a list rising.
use Rattle.std.proofs.Common.{◌≡◌, ◌⊎◌, ℕ, ◌<◌, zero, suc, List, [], ◌∷◌, length, get_or, refl, ap, sym, ◌∙◌, subst, inl, inr, arith}
use Rattle.std.specs.Prelude.{Contains}
use Rattle.std.specs.List.{AllByRecursion}
use Rattle.std.specs.List.Sorted.{IsStrictlySortedBy}
use Rattle.std.specs.Ordering.{match_ordering, ordering_reverse}
use Rattle.std.specs.Cmp.{IsTotalOrder}
use Rattle.std.specs.BTreeSet.{insert_key}
use Rattle.std.specs.declared.cmp.Ordering.{Ordering}
use Rattle.std.specs.declared.cmp.Ordering.TheVariants.{Less, Equal, Greater}
use Rattle.bx_tree.specs.Members.{Has}

-- ## Members

contains_more : {X : Type 0} (y x : X) (ys : List X) → Contains ys x → Contains (y ∷ ys) x
contains_more y x ys h = (suc h.0, omega (arith, h.1), h.2)

pub contains_has : {X : Type 0} (xs : List X) (x : X) → Has xs x → Contains xs x
contains_has [] x h = absurd h
contains_has (y ∷ ys) x h = elim h [ inl e ↦ (0, omega arith, e) | inr k ↦ contains_more y x ys (contains_has ys x k) ]

has_at : {X : Type 0} (xs : List X) (x : X) (k : ℕ) → k < length xs → get_or xs k x ≡ x → Has xs x
has_at [] x k l e = absurd (omega (arith, l))
has_at (y ∷ ys) x zero l e = inl e
has_at (y ∷ ys) x (suc k) l e = inr (has_at ys x k (omega (arith, l)) e)

pub has_contained : {X : Type 0} (xs : List X) (x : X) → Contains xs x → Has xs x
has_contained xs x h = has_at xs x h.0 h.1 h.2

-- ## Two rising lists with equal members

above : {K : Type 0} (R : K → K → Ordering) (x q : K) (xs : List K) → AllByRecursion (λ y. R x y ≡ Less) xs → Has xs q → R x q ≡ Less
above R x q [] all h = absurd h
above R x q (y ∷ ys) all h = elim h [ inl e ↦ subst (λ z. R x z ≡ Less) e all.0 | inr k ↦ above R x q ys all.1 k ]

heads : {K : Type 0} (R : K → K → Ordering) → ((a b : K) → R a b ≡ Less → R b a ≡ Less → ⊥) → (x y : K) (xs ys : List K)
    → AllByRecursion (λ z. R x z ≡ Less) xs → AllByRecursion (λ z. R y z ≡ Less) ys → Has (y ∷ ys) x → Has (x ∷ xs) y → x ≡ y
heads R asym x y xs ys below below' h k = elim h [
  | inl e ↦ sym e
  | inr m ↦ elim k [ inl e ↦ e | inr n ↦ absurd (asym x y (above R x y xs below n) (above R y x ys below' m)) ]
]

tails : {K : Type 0} (R : K → K → Ordering) → ((a b : K) → R a b ≡ Less → R b a ≡ Less → ⊥) → (x y : K) (xs ys : List K)
    → x ≡ y → AllByRecursion (λ z. R x z ≡ Less) xs → ((q : K) → Has (x ∷ xs) q → Has (y ∷ ys) q) → (q : K) → Has xs q → Has ys q
tails R asym x y xs ys same below into q h = elim (into q (inr h)) [
  | inl e ↦ let self : R x x ≡ Less = subst (λ z. R x z ≡ Less) (sym (same ∙ e)) (above R x q xs below h) in absurd (asym x x self self)
  | inr k ↦ k
]

pub unique : {K : Type 0} (R : K → K → Ordering) → ((a b : K) → R a b ≡ Less → R b a ≡ Less → ⊥) → (xs ys : List K)
    → IsStrictlySortedBy R xs → IsStrictlySortedBy R ys → ((q : K) → Has xs q → Has ys q) → ((q : K) → Has ys q → Has xs q) → xs ≡ ys
unfolding IsStrictlySortedBy
unique R asym [] [] s t into back = refl
unique R asym [] (y ∷ ys) s t into back = absurd (back y (inl refl))
unique R asym (x ∷ xs) [] s t into back = absurd (into x (inl refl))
unique R asym (x ∷ xs) (y ∷ ys) s t into back =
    let same = heads R asym x y xs ys s.0 t.0 (into x (inl refl)) (back y (inl refl)) in
    ap (λ z. z ∷ xs) same ∙ ap (λ zs. y ∷ zs) (unique R asym xs ys s.1 t.1
    (tails R asym x y xs ys same s.0 into) (tails R asym y x ys xs (sym same) t.0 back))

-- in a total order, neither of two elements is less than the other and greater too
pub never_both : {K : Type 0} {R : K → K → Ordering} → IsTotalOrder R → (a b : K) → R a b ≡ Less → R b a ≡ Less → ⊥
never_both {R = R} order a b e f = turned (R a b) (R b a) (order.antisymm a b) e f
  where
    turned : (o p : Ordering) → o ≡ ordering_reverse p → o ≡ Less → p ≡ Less → ⊥
    turned o Less h e f = cc
    turned o Equal h e f = cc
    turned o Greater h e f = cc

-- ## Insertion

-- what a list with an element put in its place has
placed_has : {K : Type 0} (o : Ordering) (k x q : K) (xs rest : List K) → (o ≡ Equal → k ≡ x) → ((k ≡ q) ⊎ Has xs q → Has rest q)
    → (k ≡ q) ⊎ Has (x ∷ xs) q → Has (match_ordering o (k ∷ x ∷ xs) (x ∷ xs) (x ∷ rest)) q
placed_has Less k x q xs rest same more h = h
placed_has Equal k x q xs rest same more h = elim h [ inl e ↦ inl (sym (same refl) ∙ e) | inr m ↦ m ]
placed_has Greater k x q xs rest same more h =
    elim h [ inl e ↦ inr (more (inl e)) | inr m ↦ elim m [ inl e ↦ inl e | inr n ↦ inr (more (inr n)) ] ]

has_placed : {K : Type 0} (o : Ordering) (k x q : K) (xs rest : List K) → (Has rest q → (k ≡ q) ⊎ Has xs q)
    → Has (match_ordering o (k ∷ x ∷ xs) (x ∷ xs) (x ∷ rest)) q → (k ≡ q) ⊎ Has (x ∷ xs) q
has_placed Less k x q xs rest less h = h
has_placed Equal k x q xs rest less h = inr h
has_placed Greater k x q xs rest less h =
    elim h [ inl e ↦ inr (inl e) | inr m ↦ elim (less m) [ inl e ↦ inl e | inr n ↦ inr (inr n) ] ]

-- an element is put in, and the others stay, where it equals those that it ties with
pub inserted : {K : Type 0} (R : K → K → Ordering) (xs : List K) (k q : K) → ((x : K) → Has xs x → R k x ≡ Equal → k ≡ x) → (k ≡ q) ⊎ Has xs q
    → Has (insert_key R xs k) q
inserted R [] k q same h = h
inserted R (x ∷ xs) k q same h =
    placed_has (R k x) k x q xs (insert_key R xs k) (same x (inl refl)) (inserted R xs k q (λ y m. same y (inr m))) h

pub insert_has : {K : Type 0} (R : K → K → Ordering) → ((x y : K) → R x y ≡ Equal → x ≡ y) → (xs : List K) (k q : K) → (k ≡ q) ⊎ Has xs q
    → Has (insert_key R xs k) q
insert_has R same xs k q h = inserted R xs k q (λ x m. same k x) h

pub has_insert : {K : Type 0} (R : K → K → Ordering) (xs : List K) (k q : K) → Has (insert_key R xs k) q → (k ≡ q) ⊎ Has xs q
has_insert R [] k q h = h
has_insert R (x ∷ xs) k q h = has_placed (R k x) k x q xs (insert_key R xs k) (has_insert R xs k q) h

less_back : (o p : Ordering) → o ≡ ordering_reverse p → o ≡ Greater → p ≡ Less
less_back o Less e g = refl
less_back o Equal e g = cc
less_back o Greater e g = cc

all_inserted : {K : Type 0} (R : K → K → Ordering) (P : K → Type 0) (xs : List K) (k : K) → AllByRecursion P xs → P k → AllByRecursion P (insert_key R xs k)
all_inserted R P [] k all here = (here, tt)
all_inserted {K = K} R P (x ∷ xs) k all here = by_order (R k x) (insert_key R xs k) (all_inserted R P xs k all.1 here)
  where
    by_order : (o : Ordering) (rest : List K) → AllByRecursion P rest → AllByRecursion P (match_ordering o (k ∷ x ∷ xs) (x ∷ xs) (x ∷ rest))
    by_order Less rest h = (here, all)
    by_order Equal rest h = all
    by_order Greater rest h = (all.0, h)

all_above : {K : Type 0} {R : K → K → Ordering} → IsTotalOrder R → (k x : K) (xs : List K) → R k x ≡ Less → AllByRecursion (λ y. R x y ≡ Less) xs → AllByRecursion (λ y. R k y ≡ Less) xs
all_above o k x [] e h = tt
all_above o k x (y ∷ ys) e h = (o.trans k x y e h.0, all_above o k x ys e h.1)

sorted_placed : {K : Type 0} {R : K → K → Ordering} → IsTotalOrder R → (k x : K) (xs rest : List K) (p : Ordering) → R k x ≡ p
    → IsStrictlySortedBy R (x ∷ xs) → IsStrictlySortedBy R rest → (R x k ≡ Less → AllByRecursion (λ y. R x y ≡ Less) rest)
    → IsStrictlySortedBy R (match_ordering p (k ∷ x ∷ xs) (x ∷ xs) (x ∷ rest))
unfolding IsStrictlySortedBy
sorted_placed o k x xs rest Less e h t up = ((e, all_above o k x xs e h.0), h)
sorted_placed o k x xs rest Equal e h t up = h
sorted_placed {R = R} o k x xs rest Greater e h t up = (up (less_back (R k x) (R x k) (o.antisymm k x) e), t)

pub insert_sorted : {K : Type 0} {R : K → K → Ordering} → IsTotalOrder R → (xs : List K) (k : K) → IsStrictlySortedBy R xs → IsStrictlySortedBy R (insert_key R xs k)
unfolding IsStrictlySortedBy
insert_sorted o [] k h = (tt, tt)
insert_sorted {R = R} o (x ∷ xs) k h =
    sorted_placed o k x xs (insert_key R xs k) (R k x) refl h (insert_sorted o xs k h.1) (λ e. all_inserted R (λ y. R x y ≡ Less) xs k h.0 e)
