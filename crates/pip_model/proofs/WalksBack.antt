-- Walks along edges that lead to smaller numbers, and the rows of bits that are made of smaller rows.
use Rattle.std.proofs.Common.{inl, inr, ◌⊎◌, ◌≡◌, ℕ, ◌+◌, ◌/◌, ◌<◌, ◌≤◌, List, [], ◌∷◌, ◌++◌, length, length-append, get_or, refl, sym, ◌∙◌, subst, arith}
use Rattle.std.specs.Prelude.{◌↔◌, IsSomeAnd}
use Rattle.std.specs.List.{All, Contains}
use Rattle.std.proofs.lemmas.List.Elements.{All-contains, All-push, Contains-append_left, Contains-push, Contains-push_cases}
use Rattle.pip_model.specs.Bits.{HasBit}
use Rattle.pip_model.specs.Plans.{AreRows, IsReachOf}
use Rattle.pip_model.specs.Rows.{ByTarget, IsRowOf, PointBack}
use Rattle.pip_model.specs.Walks.{Walk, One, Step, ListEdge}
use Rattle.pip_model.proofs.Found.{holds_more, there}

-- edges that are edges of another relation too make walks of it
pub walk_along : (E F : ℕ → ℕ → Type 0) → ((i j : ℕ) → E i j → F i j) → (i k : ℕ) → Walk E i k → Walk F i k
walk_along E F into i k (One a b e) = One a b (into a b e)
walk_along E F into i k (Step a b c e w) = Step a b c (into a b e) (walk_along E F into b c w)

-- one target more
pub one_target_more : (rows : List (List ℕ)) (done : List ℕ) (t : ℕ) (before added joined : List ℕ)
    → ((k : ℕ) → HasBit before k ↔ ByTarget rows done k) → ((k : ℕ) → HasBit added k ↔ (HasBit before k ⊎ (k ≡ t)))
    → ((k : ℕ) → HasBit joined k ↔ (HasBit added k ⊎ HasBit (get_or rows t []) k)) → (k : ℕ) → HasBit joined k ↔ ByTarget rows (done ++ t ∷ []) k
one_target_more rows done t before added joined b a j k = (
  λ h. elim ((j k).0 h) [
    | inl x ↦ elim ((a k).0 x) [
      | inl y ↦ let by = (b k).0 y in (by.0, Contains-append_left done (t ∷ []) by.0 by.1, by.2)
      | inr e ↦ (t, Contains-push done t, inl e)
    ]
    | inr y ↦ (t, Contains-push done t, inr y)
  ],
  λ (s, c, h). elim (Contains-push_cases done t s c) [
    | inl old ↦ (j k).1 (inl ((a k).1 (inl ((b k).1 (s, old, h)))))
    | inr e ↦ elim h [
      | inl is ↦ (j k).1 (inl ((a k).1 (inr (is ∙ sym e))))
      | inr bit ↦ (j k).1 (inr (subst (λ m. HasBit (get_or rows m []) k) (sym e) bit))
    ]
  ],
)

-- a row that is made of the rows of its targets has just what walks lead to
pub row_reaches : (E : ℕ → ℕ → Type 0) (i : ℕ) (rows : List (List ℕ)) (targets row : List ℕ)
    → ((j : ℕ) → Contains targets j ↔ E i j) → ((j : ℕ) → Contains targets j → IsReachOf E j (get_or rows j [])) → IsRowOf rows targets row
    → IsReachOf E i row
row_reaches E i rows targets row edges each is k = (
  λ h. let by = (is k).0 h in elim by.2 [
    | inl e ↦ subst (Walk E i) (sym e) (One i by.0 ((edges by.0).0 by.1))
    | inr bit ↦ Step i by.0 k ((edges by.0).0 by.1) ((each by.0 by.1 k).0 bit)
  ],
  λ w. (is k).1 (first_step i k w targets edges each),
)
  where
    first_step : (i k : ℕ) → Walk E i k → (ts : List ℕ) → ((j : ℕ) → Contains ts j ↔ E i j)
        → ((j : ℕ) → Contains ts j → IsReachOf E j (get_or rows j [])) → ByTarget rows ts k
    first_step i k (One a b e) ts into each = (b, (into b).1 e, inl refl)
    first_step i k (Step a b c e w) ts into each = let there = (into b).1 e in (b, there, inr ((each b there c).1 w))

-- a row of no targets
pub no_row : (rows : List (List ℕ)) (targets row : List ℕ) → length targets ≡ 0 → ((k : ℕ) → HasBit row k → ⊥) → IsRowOf rows targets row
no_row rows targets row none empty k = (λ h. absurd (empty k h), λ (s, c, h). absurd (omega (arith, none, c.1)))

-- one row more
pub rows_more : (E : ℕ → ℕ → Type 0) (rows : List (List ℕ)) (row : List ℕ) → length row ≤ length rows / 64 + 1
    → IsReachOf E (length rows) row → AreRows E rows → AreRows E (rows ++ row ∷ [])
rows_more E rows row size reach h =
    let long : length (rows ++ row ∷ []) ≡ length rows + 1 = length-append rows (row ∷ []) in
    let fits : (r : List ℕ) → length r ≤ length rows / 64 + 1 → length r ≤ length (rows ++ row ∷ []) / 64 + 1 =
    λ r l. omega (arith, l, long) in record {
      size = All-push (λ r. length r ≤ length (rows ++ row ∷ []) / 64 + 1) rows row
          (λ i d l. fits (get_or rows i d) (h.size i d l)) (fits row size);
      each = holds_more (IsReachOf E) rows row h.each reach;
    }

-- the row of the next list of targets
pub next_row : (lists : List (List ℕ)) (rows : List (List ℕ)) (targets row : List ℕ) → PointBack lists → length rows < length lists
    → targets ≡ get_or lists (length rows) targets → length row ≤ length rows / 64 + 1 → IsRowOf rows targets row
    → AreRows (ListEdge lists) rows → AreRows (ListEdge lists) (rows ++ row ∷ [])
next_row lists rows targets row back l e size is h =
    let n = length rows in
    let at = there lists n targets l e in
    let edges : (j : ℕ) → Contains targets j ↔ ListEdge lists n j = λ j. (
      λ c. subst (λ o. IsSomeAnd o (λ (ts : List ℕ). Contains ts j)) (sym at) c,
      λ x. subst (λ o. IsSomeAnd o (λ (ts : List ℕ). Contains ts j)) at x,
    ) in
    let below : All (λ t. t < n) targets = subst (All (λ t. t < n)) (sym e) (back n l targets) in
    rows_more (ListEdge lists) rows row size
    (row_reaches (ListEdge lists) n rows targets row edges
    (λ j c. h.each j (All-contains (λ t. t < n) targets j below c) []) is)
    h
