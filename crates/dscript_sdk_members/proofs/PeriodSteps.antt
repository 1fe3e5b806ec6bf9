-- How the least periods of the prefixes of a text are found, one after another.
use Rattle.std.proofs.Common.{◌≡◌, ◌≢◌, ℕ, ◌+◌, ◌-◌, ◌<◌, ◌≤◌, List, [], ◌∷◌, ◌++◌, length, get_or, ap, sym, ◌∙◌, subst, arith, inl, inr}
use Rattle.std.proofs.lemmas.Bool.{cases_order}
use Rattle.std.proofs.lemmas.List.{get_or_append_left, get_or_push, get_or_read, length_push}
use Rattle.dscript_sdk_members.specs.Periods.{ArePeriods, IsLeastPeriod, IsPeriod}

-- The text agrees with itself from a place on, for a number of bytes. It does so from no earlier place and for
-- one byte more, and the least periods of all shorter prefixes are known.
pub record Builds (text : List ℕ) (place known : ℕ) (periods : List ℕ) : Type 0 where
  pub some : 0 < place
  pub within : place + known ≤ length text
  pub each : length periods ≡ place + known
  pub same : (j : ℕ) → j < known → get_or text (place + j) 0 ≡ get_or text j 0
  pub none : (s : ℕ) → 0 < s → s < place → IsPeriod text (place + known + 1) s → ⊥
  pub least : (n : ℕ) → n < place + known → IsLeastPeriod text (n + 1) (get_or periods n 0)

-- a period of a longer prefix is one of a shorter
fewer : (text : List ℕ) (more count s : ℕ) → count ≤ more → IsPeriod text more s → IsPeriod text count s
fewer text more count s l h = record { same = λ j k. h.same j (omega arith) }

as_period : (text : List ℕ) (place known : ℕ) → ((j : ℕ) → j < known → get_or text (place + j) 0 ≡ get_or text j 0)
    → IsPeriod text (place + known) place
as_period text place known h = record { same = λ j k. h j (omega arith) }

-- what holds below a number, and at it, holds below the next
below_next : (P : ℕ → Type 0) (n m : ℕ) → m ≡ n + 1 → ((k : ℕ) → k < n → P k) → P n → (k : ℕ) → k < m → P k
below_next P n m e below here k l = elim (cases_order k n) [
  | inl is ↦ subst P (sym is) here
  | inr other ↦ elim other [ inl less ↦ below k less | inr more ↦ absurd (omega arith) ]
]

-- one more least period
one_more_least
    : (text periods : List ℕ) (n m period : ℕ) → length periods ≡ n → m ≡ n + 1 → IsLeastPeriod text (n + 1) period
    → ((k : ℕ) → k < n → IsLeastPeriod text (k + 1) (get_or periods k 0))
    → (k : ℕ) → k < m → IsLeastPeriod text (k + 1) (get_or (periods ++ period ∷ []) k 0)
one_more_least text periods n m period len e here below =
    below_next (λ k. IsLeastPeriod text (k + 1) (get_or (periods ++ period ∷ []) k 0)) n m e
    (λ k l. let fits : k < length periods = omega arith in
    subst (IsLeastPeriod text (k + 1)) (sym (get_or_append_left periods (period ∷ []) 0 k fits)) (below k l))
    (subst (IsLeastPeriod text (n + 1)) (sym (get_or_push periods period 0 n len)) here)

pub first_period : (text : List ℕ) (periods : List ℕ) → 0 < length text → periods ≡ 1 ∷ [] → Builds text 1 0 periods
first_period text periods l e = record {
  some = omega arith;
  within = omega arith;
  each = ap length e;
  same = λ j k. absurd (omega arith);
  none = λ s some less h. absurd (omega arith);
  least = λ n k. let zero_is : n ≡ 0 = omega arith in
      subst (λ m. IsLeastPeriod text (m + 1) (get_or periods m 0)) (sym zero_is)
      (subst (λ ps. IsLeastPeriod text 1 (get_or ps 0 0)) (sym e) (record {
        some = omega arith;
        within = omega arith;
        period = record { same = λ j k'. absurd (omega arith) };
        least = λ s some less h. absurd (omega arith);
      }));
}

pub equal_byte
    : (text : List ℕ) (place known : ℕ) (old new : List ℕ) → Builds text place known old → place + known < length text
    → get_or text (place + known) 0 ≡ get_or text known 0 → new ≡ old ++ place ∷ [] → Builds text place (known + 1) new
equal_byte text place known old new h l e pushed =
    let same : (j : ℕ) → j < known + 1 → get_or text (place + j) 0 ≡ get_or text j 0 =
    below_next (λ j. get_or text (place + j) 0 ≡ get_or text j 0) known (known + 1) refl_next h.same e in
    let period : IsPeriod text (place + known + 1) place =
    record { same = λ j k. same j (omega arith) } in
    subst (Builds text place (known + 1)) (sym pushed) (record {
      some = h.some;
      within = omega arith;
      each = length_push old place ∙ (let len = h.each in omega arith);
      same = same;
      none = λ s some less p. h.none s some less (fewer text (place + (known + 1) + 1) (place + known + 1) s (omega arith) p);
      least = one_more_least text old (place + known) (place + (known + 1)) place h.each (omega arith)
          (record { some = h.some; within = omega arith; period = period; least = h.none }) h.least;
    })
  where
    refl_next : known + 1 ≡ known + 1
    refl_next = omega arith

-- no byte agrees there, not even the first
pub no_byte
    : (text : List ℕ) (place known : ℕ) (old new : List ℕ) → Builds text place known old → place + known < length text
    → known ≡ 0 → get_or text (place + known) 0 ≢ get_or text known 0 → new ≡ old ++ (place + 1) ∷ []
    → Builds text (place + 1) known new
no_byte text place known old new h l zero_is differs pushed =
    let none : (s : ℕ) → s < place + 1 → 0 < s → IsPeriod text (place + known + 1) s → ⊥ =
    below_next (λ s. 0 < s → IsPeriod text (place + known + 1) s → ⊥) place (place + 1) (omega arith)
    (λ s less some p. h.none s some less p) (λ some p. differs (p.same known (omega arith))) in
    subst (Builds text (place + 1) known) (sym pushed) (record {
      some = omega arith;
      within = omega arith;
      each = length_push old (place + 1) ∙ (let len = h.each in omega arith);
      same = λ j k. absurd (omega arith);
      none = λ s some less p.
          none s less some (fewer text (place + 1 + known + 1) (place + known + 1) s (omega arith) p);
      least = one_more_least text old (place + known) (place + 1 + known) (place + 1) h.each (omega arith)
          (record {
            some = omega arith;
            within = omega arith;
            period = record { same = λ j k. absurd (omega arith) };
            least = λ s some less p. none s less some p;
          }) h.least;
    })

-- Where the next byte differs, the place moves on by the least period of what agrees.
pub shifted
    : (text : List ℕ) (place known shift : ℕ) (periods : List ℕ) → Builds text place known periods → place + known < length text
    → get_or text (place + known) 0 ≢ get_or text known 0 → IsLeastPeriod text known shift
    → Builds text (place + shift) (known - shift) periods
shifted text place known shift periods h l differs p = record {
  some = let s = h.some in omega arith;
  within = let w = p.within in omega arith;
  each = let w = p.within in h.each ∙ omega arith;
  same = λ j k. let s = p.some in
      let w = p.within in
      ap (λ i. get_or text i 0) (the_place j) ∙ h.same (shift + j) (omega arith) ∙ p.period.same j (omega arith);
  none = λ s some less q. by_order s some less (fewer text (place + shift + (known - shift) + 1) (place + known + 1) s (let w = p.within in omega arith) q);
  least = λ n k. h.least n (let w = p.within in omega arith);
}
  where
    the_place : (j : ℕ) → place + shift + j ≡ place + (shift + j)
    the_place j = omega arith

    further : (s d : ℕ) → s ≡ place + d → 0 < d → d < shift → IsPeriod text (place + known + 1) s → ⊥
    further s d is some less q =
        p.least d some less (record {
          same = λ j k.
              sym (h.same (d + j) k) ∙ ap (λ i. get_or text i 0) (the_shift j) ∙ q.same j (omega arith);
        })
      where
        the_shift : (j : ℕ) → place + (d + j) ≡ s + j
        the_shift j = omega arith

    by_order : (s : ℕ) → 0 < s → s < place + shift → IsPeriod text (place + known + 1) s → ⊥
    by_order s some less q = elim (cases_order s place) [
      | inl is ↦ differs (subst (λ i. get_or text (i + known) 0 ≡ get_or text known 0) is (q.same known (omega arith)))
      | inr other ↦ elim other [
        | inl before ↦ h.none s some before q
        | inr after ↦ further s (s - place) (omega arith) (omega arith) (omega arith) q
      ]
    ]

pub all_periods : (text : List ℕ) (place known : ℕ) (periods : List ℕ) → Builds text place known periods → length text ≤ place + known
    → (ArePeriods text periods) × (length periods ≡ length text)
all_periods text place known periods h l = (
  record { each = λ n k. h.least n (let e = h.each in omega arith) },
  (let w = h.within in h.each ∙ omega arith),
)

-- the least period of what agrees, as it is read
pub period_there
    : (text : List ℕ) (place known : ℕ) (periods : List ℕ) (period : ℕ) → Builds text place known periods → (known ≡ 0 → ⊥)
    → period ≡ get_or periods (known - 1) period → IsLeastPeriod text known period
period_there text place known periods period h some e =
    let there : known - 1 < length periods = let each = h.each in let first = h.some in omega arith in
    let below : known - 1 < place + known = let each = h.each in omega arith in
    let same : known - 1 + 1 ≡ known = omega arith in
    subst (IsLeastPeriod text known) (sym (get_or_read periods (known - 1) period there e 0))
    (subst (λ n. IsLeastPeriod text n (get_or periods (known - 1) 0)) same (h.least (known - 1) below))
