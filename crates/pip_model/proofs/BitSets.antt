-- Sets of numbers as bits: what joining two sets and adding a number leave.
use Rattle.std.proofs.Common.{inl, inr, ◌⊎◌, ◌≡◌, ℕ, ◌+◌, ◌*◌, ◌/◌, ◌%◌, ◌^◌, ◌<◌, ◌≤◌, List, length, get_or, set, bit_or, w64, refl, ap, sym, ◌∙◌, arith}
use Rattle.std.specs.Prelude.{◌↔◌}
use Rattle.std.specs.Int.{bit_at}
use Rattle.std.proofs.lemmas.Bool.{cases_eq, cases_lt}
use Rattle.std.proofs.lemmas.List.{get_or-set_same, get_or-set_other, get_or_past}
use Rattle.std.proofs.Math.ListN.{length-set}
use Rattle.std.proofs.lemmas.Nat.Bits.{bit_at-lt, bit_at-zero, bit_at_or, bit_at_set_same, bit_at_set_other}
use Rattle.pip_model.specs.Bits.{HasBit}

-- a bit of two words joined is a bit of either
pub bit_of_either : (a b i : ℕ) → (bit_at (bit_or a b) i ≡ 1) ↔ ((bit_at a i ≡ 1) ⊎ (bit_at b i ≡ 1))
bit_of_either a b i =
    let e = bit_at_or a b i in
    let la = bit_at-lt a i in
    let lb = bit_at-lt b i in (
      λ h. elim (cases_eq (bit_at a i) 1) [ inl p ↦ inl p | inr n ↦ inr (omega (arith, e, h, la, lb, n)) ],
      λ s. elim s [ inl p ↦ omega (arith, e, p, lb) | inr q ↦ omega (arith, e, q, la) ],
    )

-- the words before a place are joined, and those from it on are as they were
pub record JoinedBelow (before other now : List ℕ) (i : ℕ) : Type 0 where
  pub size : length now ≡ length before
  pub below : (m : ℕ) → m < i → get_or now m 0 ≡ bit_or (get_or before m 0) (get_or other m 0)
  pub from : (m : ℕ) → i ≤ m → get_or now m 0 ≡ get_or before m 0

pub joined_none : (before other : List ℕ) → JoinedBelow before other before 0
joined_none before other = record { size = refl; below = λ m l. absurd (omega (arith, l)); from = λ m l. refl }

pub joined_more : (before other now : List ℕ) (i w : ℕ) → i < length now → w ≡ bit_or (get_or now i 0) (get_or other i 0)
    → JoinedBelow before other now i → JoinedBelow before other (set now i w) (i + 1)
joined_more before other now i w l e h = record {
  size = length-set now i w ∙ h.size;
  below = λ m below. elim (cases_eq m i) [
    | inl same ↦
        ap (λ k. get_or (set now i w) k 0) same ∙ get_or-set_same now i w 0 l ∙ e
        ∙ ap (λ v. bit_or v (get_or other i 0)) (h.from i (omega arith))
        ∙ ap (λ k. bit_or (get_or before k 0) (get_or other k 0)) (sym same)
    | inr differ ↦ get_or-set_other now i m w 0 differ ∙ h.below m (omega (arith, below, differ))
  ];
  from = λ m above. get_or-set_other now i m w 0 (λ e. omega (arith, e, above)) ∙ h.from m (omega (arith, above));
}

-- what a word is made of, a bit is made of
bit_from_word : (now before other : List ℕ) (k : ℕ) → get_or now (k / 64) 0 ≡ bit_or (get_or before (k / 64) 0) (get_or other (k / 64) 0)
    → HasBit now k ↔ (HasBit before k ⊎ HasBit other k)
bit_from_word now before other k e =
    let either = bit_of_either (get_or before (k / 64) 0) (get_or other (k / 64) 0) (k % 64) in (
      λ h. either.0 (sym (ap (λ w. bit_at w (k % 64)) e) ∙ h),
      λ s. ap (λ w. bit_at w (k % 64)) e ∙ either.1 s,
    )

no_bit : (w i : ℕ) → w ≡ 0 → bit_at w i ≡ 1 → ⊥
no_bit w i e h = omega (arith, sym (ap (λ v. bit_at v i) e) ∙ h, bit_at-zero i)

pub joined_all : (before other now : List ℕ) (i : ℕ) → length other ≤ i → JoinedBelow before other now i
    → (k : ℕ) → HasBit now k ↔ (HasBit before k ⊎ HasBit other k)
joined_all before other now i l h k = elim (cases_lt (k / 64) i) [
  | inl below ↦ bit_from_word now before other k (h.below (k / 64) below)
  | inr above ↦
      let past : length other ≤ k / 64 = omega (arith, l, above) in
      let kept = h.from (k / 64) above in (
        λ b. inl (sym (ap (λ w. bit_at w (k % 64)) kept) ∙ b),
        λ s. elim s [
          | inl b ↦ ap (λ w. bit_at w (k % 64)) kept ∙ b
          | inr b ↦ absurd (no_bit (get_or other (k / 64) 0) (k % 64) (get_or_past other (k / 64) 0 past) b)
        ],
      )
]

-- a number is fixed by its word and its bit
same_number : (k n : ℕ) → k / 64 ≡ n / 64 → k % 64 ≡ n % 64 → k ≡ n
same_number k n a b = omega (arith, a, b)

pub added_bit : (before : List ℕ) (n w : ℕ) → n / 64 < length before
    → w ≡ bit_or (get_or before (n / 64) 0) (1 * 2 ^ (n % 64) % 2 ^ 64)
    → (k : ℕ) → HasBit (set before (n / 64) w) k ↔ (HasBit before k ⊎ (k ≡ n))
added_bit before n w l e k = elim (cases_eq (k / 64) (n / 64)) [
  | inr other ↦
      let kept = get_or-set_other before (n / 64) (k / 64) w 0 other in (
        λ b. inl (sym (ap (λ v. bit_at v (k % 64)) kept) ∙ b),
        λ s. elim s [
          | inl b ↦ ap (λ v. bit_at v (k % 64)) kept ∙ b
          | inr q ↦ absurd (other (ap (λ m. m / 64) q))
        ],
      )
  | inl same ↦
      let word : get_or (set before (n / 64) w) (k / 64) 0 ≡ bit_or (get_or before (n / 64) 0) (1 * 2 ^ (n % 64) % 2 ^ 64) =
      ap (λ m. get_or (set before (n / 64) w) m 0) same ∙ get_or-set_same before (n / 64) w 0 l ∙ e in
      let small : n % 64 < 64 = omega arith in
      elim (cases_eq (k % 64) (n % 64)) [
        | inl bit ↦ (
          λ b. inr (same_number k n same bit),
          λ s. ap (λ v. bit_at v (k % 64)) word
              ∙ ap (λ m. bit_at (bit_or (get_or before (n / 64) 0) (1 * 2 ^ (n % 64) % 2 ^ 64)) m) bit
              ∙ bit_at_set_same w64 (get_or before (n / 64) 0) (n % 64) small,
        )
        | inr differ ↦
            let kept : bit_at (get_or (set before (n / 64) w) (k / 64) 0) (k % 64) ≡ bit_at (get_or before (k / 64) 0) (k % 64) =
            ap (λ v. bit_at v (k % 64)) word
            ∙ bit_at_set_other w64 (get_or before (n / 64) 0) (n % 64) small (k % 64) differ
            ∙ ap (λ m. bit_at (get_or before m 0) (k % 64)) (sym same) in (
              λ b. inl (sym kept ∙ b),
              λ s. elim s [ inl b ↦ kept ∙ b | inr q ↦ absurd (differ (ap (λ m. m % 64) q)) ],
            )
      ]
]
