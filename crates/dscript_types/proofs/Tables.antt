-- Tables that are right.
use Rattle.std.proofs.Common.{◌≡◌, ℕ, zero, suc, ◌+◌, ◌-◌, ◌≤◌, ◌⊎◌, inl, inr, true, false, List, [], ◌∷◌, Option, Some, None, cond, map, slice_get, slice_set, unwrap_or, refl, ap, sym, subst, ◌∙◌, arith}
use Rattle.std.proofs.lemmas.Bool.{cases_lt}
use Rattle.std.proofs.lemmas.List.Sums.{sum_by-cons}
use Rattle.dscript_program.specs.ProgramData.{DeclData, FileData, ProgramData}
use Rattle.dscript_types_known.specs.Findings.{Finding, Found, Nothing, Open, Tells, is_open, one_further}
use Rattle.dscript_types_known.specs.Tables.{IsClosed, IsClosedTo, IsRight, TableData, all_open, ask_of, closed, entry, entry_in, filled, filled_in, if_open, open_count, open_in}
use Rattle.dscript_types_meaning.specs.Lookups.{decl_at, decls_in}
use Rattle.dscript_types_meaning.specs.Typed.{known_within, reach}
use Rattle.dscript_types_meaning.specs.Types.{TypeData}
use Rattle.dscript_types.specs.Passes.{AreStuck, FindsIn, IsFull, anywhere}

-- ## Findings

pub not_open : (f : Finding TypeData) → is_open f ≡ false → f ≡ Open → ⊥
not_open f shut e = let fails : true ≡ false = sym (ap is_open e) ∙ shut in cc

pub is_an_open : (f : Finding TypeData) → is_open f ≡ true → f ≡ Open
is_an_open (Found t rank) e = cc
is_an_open Nothing e = cc
is_an_open Open e = refl

-- what is not open says the same, whatever is closed
tells_any
    : (a b : Type 0) (n : ℕ) (f : Finding TypeData) (o : Option TypeData) → (f ≡ Open → ⊥) → Tells a n f o → Tells b n f o
tells_any a b n (Found t rank) o fails tells = tells
tells_any a b n Nothing o fails tells = tells
tells_any a b n Open o fails tells = absurd (fails refl)

pub further
    : (a : Type 0) (n : ℕ) (f : Finding TypeData) (o : Option TypeData) → Tells a n f o → Tells a (suc n) (one_further f) o
further a n (Found t rank) o tells = (λ l. tells.0 (omega (arith, l)), λ l. tells.1 (omega (arith, l)))
further a n Nothing o tells = tells
further a n Open o tells = tells

-- where nothing may be looked into
pub nothing_further : (a : Type 0) (f : Finding TypeData) → Tells a 0 (one_further f) None
nothing_further a (Found t rank) = (λ l. absurd (omega (arith, l)), λ l. refl)
nothing_further a Nothing = refl
nothing_further a Open = λ c. refl

-- ## Entries

set_at
    : {X : Type 0} (xs : List X) (i : ℕ) (x d : X) (j : ℕ)
    → (unwrap_or (slice_get (slice_set xs i x) j) d ≡ unwrap_or (slice_get xs j) d)
    ⊎ ((j ≡ i) × (unwrap_or (slice_get (slice_set xs i x) j) d ≡ x))
set_at [] i x d j = inl refl
set_at (y ∷ xs) zero x d zero = inr (refl, refl)
set_at (y ∷ xs) zero x d (suc j) = inl refl
set_at (y ∷ xs) (suc i) x d zero = inl refl
set_at (y ∷ xs) (suc i) x d (suc j) = elim (set_at xs i x d j) [
  | inl e ↦ inl e
  | inr h ↦ inr (ap suc h.0, h.1)
]

module _ (es : List (Finding TypeData)) (i : ℕ) (f : Finding TypeData) (j : ℕ) where
  abbrev OneFilled : Type 0
  OneFilled = (entry_in (filled_in es i f) j ≡ entry_in es j)
      ⊎ ((j ≡ i) × (entry_in es j ≡ Open) × (entry_in (filled_in es i f) j ≡ f))

  put_there : (g : Finding TypeData) → entry_in es i ≡ g → j ≡ i → entry_in (filled_in es i f) j ≡ if_open f (entry_in es i) → OneFilled
  put_there (Found t rank) e here put =
      inl (put ∙ ap (if_open f) e ∙ sym e ∙ ap (entry_in es) (sym here))
  put_there Nothing e here put = inl (put ∙ ap (if_open f) e ∙ sym e ∙ ap (entry_in es) (sym here))
  put_there Open e here put = inr (here, ap (entry_in es) here ∙ e, put ∙ ap (if_open f) e)

  one_filled : OneFilled
  one_filled = elim (set_at es i (if_open f (entry_in es i)) Nothing j) [
    | inl e ↦ inl e
    | inr h ↦ put_there (entry_in es i) refl h.0 h.1
  ]

abbrev row_of : TableData → ℕ → List (Finding TypeData)
row_of table file = unwrap_or (slice_get table file) []

module _ (t : TableData) (file decl : ℕ) (f : Finding TypeData) (k j : ℕ) where
  -- an entry is as it was, or it was open and is filled
  abbrev EntryFilled : Type 0
  EntryFilled = (entry (filled t file decl f) k j ≡ entry t k j)
      ⊎ ((k ≡ file) × (j ≡ decl) × (entry t k j ≡ Open) × (entry (filled t file decl f) k j ≡ f))

  in_row : k ≡ file → row_of (filled t file decl f) k ≡ filled_in (row_of t file) decl f → EntryFilled
  in_row here put = elim (one_filled (row_of t file) decl f j) [
    | inl e ↦ inl (ap (λ es. entry_in es j) put ∙ e ∙ ap (λ i. entry t i j) (sym here))
    | inr h ↦ inr (here, h.0, ap (λ i. entry t i j) here ∙ h.1, ap (λ es. entry_in es j) put ∙ h.2)
  ]

  entry_filled : EntryFilled
  entry_filled = elim (set_at t file (filled_in (row_of t file) decl f) [] k) [
    | inl e ↦ inl (ap (λ es. entry_in es j) e)
    | inr h ↦ in_row h.0 h.1
  ]

-- ## Right tables

module _ (p : ProgramData) (table : TableData) where
  abbrev Told : Type 0
  Told = (n file decl : ℕ) (d : DeclData) → n ≤ reach p → decl_at p file decl ≡ Some d → (entry table file decl ≡ Open → ⊥)
      → Tells (IsClosed p table n) n (entry table file decl) (known_within p n (ask_of file decl d.kind))

  -- what is open says nothing
  right_if : Told → IsRight p table
  right_if told n file decl d within there = by_entry (entry table file decl) refl
    where
      by_entry
          : (f : Finding TypeData) → entry table file decl ≡ f
          → Tells (IsClosed p table n) n (entry table file decl) (known_within p n (ask_of file decl d.kind))
      by_entry (Found t rank) e = told n file decl d within there (λ o. not_open (Found t rank) refl (sym e ∙ o))
      by_entry Nothing e = told n file decl d within there (λ o. not_open Nothing refl (sym e ∙ o))
      by_entry Open e =
          subst (λ (f : Finding TypeData). Tells (IsClosed p table n) n f (known_within p n (ask_of file decl d.kind))) (sym e)
          (λ shut. shut file decl d there e)

-- the table in which everything is open
opened_row
    : (ds : List DeclData) (decl : ℕ) (d : DeclData) → slice_get ds decl ≡ Some d
    → entry_in (map (λ (e : DeclData). Open) ds) decl ≡ Open
opened_row [] decl d e = cc
opened_row (x ∷ ds) zero d e = refl
opened_row (x ∷ ds) (suc i) d e = opened_row ds i d e

opened_files
    : (fs : List FileData) (file decl : ℕ) (d : DeclData) → slice_get (decls_in (slice_get fs file)) decl ≡ Some d
    → entry (map (λ (f : FileData). map (λ (e : DeclData). Open) f.decls) fs) file decl ≡ Open
opened_files [] file decl d e = cc
opened_files (f ∷ fs) zero decl d e = opened_row f.decls decl d e
opened_files (f ∷ fs) (suc i) decl d e = opened_files fs i decl d e

pub all_open_right : (p : ProgramData) → IsRight p (all_open p)
all_open_right p =
    right_if p (all_open p) (λ n file decl d within there fails. absurd (fails (opened_files p.files file decl d there)))

-- a table that is filled
module _ (p : ProgramData) (old : TableData) (file decl : ℕ) (f : Finding TypeData) (finds : FindsIn p old file decl f)
    (fails : f ≡ Open → ⊥) where
  abbrev Is : ℕ → ℕ → ℕ → DeclData → Finding TypeData → Type 0
  Is n k j d g = Tells (IsClosed p (filled old file decl f) n) n g (known_within p n (ask_of k j d.kind))

  moved
      : (n : ℕ) (d : DeclData) → n ≤ reach p → (k : ℕ) → file ≡ k → (j : ℕ) → decl ≡ j → decl_at p k j ≡ Some d → Is n k j d f
  moved n d within k here =
      subst (λ (i : ℕ). (j : ℕ) → decl ≡ j → decl_at p i j ≡ Some d → Is n i j d f) here
      (λ j there. subst (λ (i : ℕ). decl_at p file i ≡ Some d → Is n file i d f) there
      (λ at. tells_any (IsClosedTo p old (n - 1)) (IsClosed p (filled old file decl f) n) n f (known_within p n (ask_of file decl d.kind)) fails
      (finds.finds n d within at)))

  pub filled_right : IsRight p old → IsRight p (filled old file decl f)
  filled_right right =
      right_if p (filled old file decl f)
      (λ n k j d within there shut. elim (entry_filled old file decl f k j) [
        | inl e ↦
            subst (λ (g : Finding TypeData). Is n k j d g) (sym e)
            (tells_any (IsClosed p old n) (IsClosed p (filled old file decl f) n) n (entry old k j) (known_within p n (ask_of k j d.kind))
            (λ o. shut (e ∙ o)) (right n k j d within there))
        | inr h ↦ subst (λ (g : Finding TypeData). Is n k j d g) (sym h.3) (moved n d within k (sym h.0) j (sym h.1) there)
      ])

-- ## How many are open

abbrev one_if : Finding TypeData → ℕ
one_if f = cond (is_open f) 1 0

closes : (x f : Finding TypeData) → x ≡ Open → is_open f ≡ false → (one_if (if_open f x) ≡ 0) × (one_if x ≡ 1)
closes x f e shut =
    (ap (λ (y : Finding TypeData). one_if (if_open f y)) e ∙ ap (λ b. cond b 1 0) shut, ap one_if e)

filled_in_fewer
    : (es : List (Finding TypeData)) (i : ℕ) (f : Finding TypeData) → entry_in es i ≡ Open → is_open f ≡ false
    → open_in (filled_in es i f) + 1 ≡ open_in es
filled_in_fewer [] i f e shut = cc
filled_in_fewer (x ∷ es) zero f e shut =
    let ones = closes x f e shut in
    omega (arith, sum_by-cons one_if (if_open f x) es, sum_by-cons one_if x es, ones.0, ones.1)
filled_in_fewer (x ∷ es) (suc i) f e shut =
    omega (arith, sum_by-cons one_if x (filled_in es i f), sum_by-cons one_if x es, filled_in_fewer es i f e shut)

pub filled_fewer
    : (t : TableData) (file decl : ℕ) (f : Finding TypeData) → entry t file decl ≡ Open → is_open f ≡ false
    → open_count (filled t file decl f) + 1 ≡ open_count t
filled_fewer [] file decl f e shut = cc
filled_fewer (es ∷ t) zero decl f e shut =
    omega (arith, sum_by-cons open_in (filled_in es decl f) t, sum_by-cons open_in es t, filled_in_fewer es decl f e shut)
filled_fewer (es ∷ t) (suc i) decl f e shut =
    omega (arith, sum_by-cons open_in es (filled t i decl f), sum_by-cons open_in es t, filled_fewer t i decl f e shut)

-- ## The end

closed_row : (es : List (Finding TypeData)) (j : ℕ) → entry_in (map (if_open Nothing) es) j ≡ if_open Nothing (entry_in es j)
closed_row [] j = refl
closed_row (e ∷ es) zero = refl
closed_row (e ∷ es) (suc j) = closed_row es j

entry_closed : (t : TableData) (k j : ℕ) → entry (closed t) k j ≡ if_open Nothing (entry t k j)
entry_closed [] k j = refl
entry_closed (es ∷ t) zero j = closed_row es j
entry_closed (es ∷ t) (suc k) j = entry_closed t k j

none_open : (f : Finding TypeData) → if_open Nothing f ≡ Open → ⊥
none_open (Found t rank) e = not_open (Found t rank) refl e
none_open Nothing e = not_open Nothing refl e
none_open Open e = not_open Nothing refl e

pub closed_full : (t : TableData) → IsFull (closed t)
closed_full t file decl e = none_open (entry t file decl) (sym (entry_closed t file decl) ∙ e)

module _ (p : ProgramData) (t : TableData) (stuck : AreStuck p t anywhere) where
  -- all that are open hang on one another
  none_known : (n : ℕ) → n ≤ reach p → IsClosedTo p t n
  unfolding known_within
  none_known zero within fewer l file decl d there open_is =
      let none : 0 ≡ fewer = omega (arith, l) in
      subst (λ (m : ℕ). known_within p m (ask_of file decl d.kind) ≡ None) none refl
  none_known (suc n) within fewer l file decl d there open_is = elim (cases_lt n fewer) [
    | inl more ↦
        let same : suc n ≡ fewer = omega (arith, l, more) in
        subst (λ (m : ℕ). known_within p m (ask_of file decl d.kind) ≡ None) same
        (stuck n file decl d tt there open_is (omega (arith, within)) (none_known n (omega (arith, within))))
    | inr less ↦ none_known n (omega (arith, within)) fewer less file decl d there open_is
  ]

  abbrev IsAfter : ℕ → ℕ → ℕ → DeclData → Finding TypeData → Type 0
  IsAfter n k j d g = Tells (IsClosed p (closed t) n) n g (known_within p n (ask_of k j d.kind))

  pub closed_right : IsRight p t → IsRight p (closed t)
  closed_right right =
      right_if p (closed t) (λ n k j d within there fails. by_entry n k j d within there (entry t k j) refl)
    where
      by_entry
          : (n k j : ℕ) (d : DeclData) → n ≤ reach p → decl_at p k j ≡ Some d → (f : Finding TypeData) → entry t k j ≡ f
          → IsAfter n k j d (entry (closed t) k j)
      by_entry n k j d within there (Found u rank) e =
          subst (λ (g : Finding TypeData). IsAfter n k j d g) (sym (entry_closed t k j ∙ ap (if_open Nothing) e))
          (subst (λ (g : Finding TypeData). Tells (IsClosed p t n) n g (known_within p n (ask_of k j d.kind))) e (right n k j d within there))
      by_entry n k j d within there Nothing e =
          subst (λ (g : Finding TypeData). IsAfter n k j d g) (sym (entry_closed t k j ∙ ap (if_open Nothing) e))
          (subst (λ (g : Finding TypeData). Tells (IsClosed p t n) n g (known_within p n (ask_of k j d.kind))) e (right n k j d within there))
      by_entry n k j d within there Open e =
          subst (λ (g : Finding TypeData). IsAfter n k j d g) (sym (entry_closed t k j ∙ ap (if_open Nothing) e))
          (none_known n within n (omega arith) k j d there e)
