-- The flags of pips: how they follow what is counted.
use Rattle.std.proofs.Common.{◌≡◌, ℕ, ◌+◌, ◌-◌, ◌==◌, ◌<◌, ◌≤◌, Bool, true, false, not, cond, ◌&&◌, ◌||◌, List, length, get_or, set, take, refl, ap, sym, ◌∙◌, arith, inl, inr, length-set}
use Rattle.std.proofs.lemmas.Bool.{cases_eq, cases_lt, eq-eqb, ne_eqb}
use Rattle.std.proofs.lemmas.List.{length-replicate, get_or-set_same, get_or-set_other, get_or_past, get_or-replicate}
use Rattle.sched_core.proofs.Dependents.{times_more, times_room}
use Rattle.sched_core.specs.Indexes.{AreFlagged, HasSize, Readiness, flagged, missing_at, times, with_failed, with_missing}
use Rattle.sched_core.specs.Legal.{all_waiting}
use Rattle.sched_core.specs.Sets.{flag_at}
use Rattle.sched_core.specs.States.{is_waiting}
use Rattle.sched_core.specs.Table.{state_at}
use Rattle.sched_core.specs.declared.state.PipState.{PipState}
use Rattle.sched_core.specs.declared.state.PipState.TheVariants as state

-- the flags of all pips but one are those of what is counted
pub record AreFlaggedBut (q : ℕ) (states : List PipState) (r : Readiness) : Type 0 where
  pub starts : (p : ℕ) → (p ≡ q → ⊥) → flag_at r.starts p ≡ (is_waiting (state_at states p) && (missing_at r p == 0))
  pub skips : (p : ℕ) → (p ≡ q → ⊥) → flag_at r.skips p ≡ (is_waiting (state_at states p) && flag_at r.failed p)

pub flagged_size : (r : Readiness) (n q : ℕ) (waits : Bool) → HasSize r n → HasSize (flagged r q waits) n
flagged_size r n q waits h = record {
  missing = h.missing;
  failed = h.failed;
  starts = length-set r.starts q (waits && (missing_at r q == 0)) ∙ h.starts;
  skips = length-set r.skips q (waits && flag_at r.failed q) ∙ h.skips;
}

pub with_missing_size : (r : Readiness) (n q count : ℕ) → HasSize r n → HasSize (with_missing r q count) n
with_missing_size r n q count h = record {
  missing = length-set r.missing q count ∙ h.missing;
  failed = h.failed;
  starts = h.starts;
  skips = h.skips;
}

pub with_failed_size : (r : Readiness) (n q : ℕ) → HasSize r n → HasSize (with_failed r q) n
with_failed_size r n q h = record {
  missing = h.missing;
  failed = length-set r.failed q true ∙ h.failed;
  starts = h.starts;
  skips = h.skips;
}

-- setting the flags of the one pip makes all right
pub flagged_all : (states : List PipState) (r : Readiness) (n q : ℕ) (waits : Bool) → HasSize r n → q < n
    → waits ≡ is_waiting (state_at states q) → AreFlaggedBut q states r → AreFlagged states (flagged r q waits)
flagged_all states r n q waits size l same h = record {
  starts = λ p. elim (cases_eq p q) [
    | inl e ↦
        ap (λ k. flag_at (set r.starts q (waits && (missing_at r q == 0))) k) e
        ∙ get_or-set_same r.starts q (waits && (missing_at r q == 0)) false (omega (arith, size.starts, l))
        ∙ ap (λ b. b && (missing_at r q == 0)) same
        ∙ sym (ap (λ k. is_waiting (state_at states k) && (missing_at r k == 0)) e)
    | inr other ↦ get_or-set_other r.starts q p (waits && (missing_at r q == 0)) false other ∙ h.starts p other
  ];
  skips = λ p. elim (cases_eq p q) [
    | inl e ↦
        ap (λ k. flag_at (set r.skips q (waits && flag_at r.failed q)) k) e
        ∙ get_or-set_same r.skips q (waits && flag_at r.failed q) false (omega (arith, size.skips, l))
        ∙ ap (λ b. b && flag_at r.failed q) same
        ∙ sym (ap (λ k. is_waiting (state_at states k) && flag_at r.failed k) e)
    | inr other ↦ get_or-set_other r.skips q p (waits && flag_at r.failed q) false other ∙ h.skips p other
  ];
}

-- ## A change of what is counted for one pip

pub but_missing : (states : List PipState) (r : Readiness) (q count : ℕ) → AreFlagged states r → AreFlaggedBut q states (with_missing r q count)
but_missing states r q count h = record {
  starts = λ p other. h.starts p
      ∙ ap (λ (n : ℕ). is_waiting (state_at states p) && (n == 0)) (sym (get_or-set_other r.missing q p count 0 other));
  skips = λ p other. h.skips p;
}

pub but_failed : (states : List PipState) (r : Readiness) (q : ℕ) → AreFlagged states r → AreFlaggedBut q states (with_failed r q)
but_failed states r q h = record {
  starts = λ p other. h.starts p;
  skips = λ p other. h.skips p
      ∙ ap (λ b. is_waiting (state_at states p) && b) (sym (get_or-set_other r.failed q p true false other));
}

pub but_state : (states : List PipState) (r : Readiness) (q : ℕ) (x : PipState) → AreFlagged states r → AreFlaggedBut q (set states q x) r
but_state states r q x h = record {
  starts = λ p other. h.starts p
      ∙ ap (λ s. is_waiting s && (missing_at r p == 0)) (sym (get_or-set_other states q p x state.Skipped other));
  skips = λ p other. h.skips p
      ∙ ap (λ s. is_waiting s && flag_at r.failed p) (sym (get_or-set_other states q p x state.Skipped other));
}

-- ## A loop over dependents

pub missing_there : (r : Readiness) (n p : ℕ) → HasSize r n → 0 < missing_at r p → p < n
missing_there r n p h some = elim (cases_lt p n) [
  | inl l ↦ l
  | inr past ↦ absurd (omega (arith, some, get_or_past r.missing p 0 (omega (arith, h.missing, past))))
]

-- what is left for the next of these pips
pub missing_left : (before : Readiness) (r : Readiness) (dependents : List ℕ) (k : ℕ) → k < length dependents
    → ((p : ℕ) → times p dependents ≤ missing_at before p)
    → ((p : ℕ) → missing_at r p + times p (take k dependents) ≡ missing_at before p)
    → 0 < missing_at r (get_or dependents k 0)
missing_left before r dependents k l room now =
    omega (arith, times_room dependents k l, room (get_or dependents k 0), now (get_or dependents k 0))

pub missing_step : (before : Readiness) (r : Readiness) (dependents : List ℕ) (n k : ℕ) → k < length dependents → HasSize r n
    → 0 < missing_at r (get_or dependents k 0)
    → ((p : ℕ) → missing_at r p + times p (take k dependents) ≡ missing_at before p)
    → (p : ℕ) → missing_at (with_missing r (get_or dependents k 0) (missing_at r (get_or dependents k 0) - 1)) p + times p (take (k + 1) dependents) ≡ missing_at before p
missing_step before r dependents n k l size some now p =
    let q = get_or dependents k 0 in
    elim (cases_eq p q) [
      | inl e ↦
          let read : missing_at (with_missing r q (missing_at r q - 1)) p ≡ missing_at r q - 1 =
          ap (λ i. missing_at (with_missing r q (missing_at r q - 1)) i) e
          ∙ get_or-set_same r.missing q (missing_at r q - 1) 0 (omega (arith, size.missing, missing_there r n q size some)) in
          let hit : cond (q == p) 1 0 ≡ 1 = ap {B = ℕ} (λ b. cond b 1 0) (eq-eqb q p (sym e)) in
          omega (arith, read, hit, times_more p dependents k l, now p, some, ap (missing_at r) e)
      | inr other ↦
          let read : missing_at (with_missing r q (missing_at r q - 1)) p ≡ missing_at r p =
          get_or-set_other r.missing q p (missing_at r q - 1) 0 other in
          let miss : cond (q == p) 1 0 ≡ 0 = ap {B = ℕ} (λ b. cond b 1 0) (ne_eqb q p (λ e. other (sym e))) in
          omega (arith, read, miss, times_more p dependents k l, now p)
    ]

-- a pip that stands in the list has a number of times above 0
pub stands_there : (dependents : List ℕ) (n k : ℕ) → k < length dependents
    → ((p : ℕ) → 0 < times p dependents → p < n) → get_or dependents k 0 < n
stands_there dependents n k l there = there (get_or dependents k 0) (omega (arith, times_room dependents k l))

not_zero : (n : ℕ) → not (n + 1 == 0) ≡ true
not_zero n = ap not (ne_eqb (n + 1) 0 (λ e. omega (arith, e)))

or_yes : (b : Bool) → true ≡ (b || true)
or_yes true = refl
or_yes false = refl

pub failed_step : (before r : Readiness) (dependents : List ℕ) (n k : ℕ) → k < length dependents → HasSize r n
    → get_or dependents k 0 < n
    → ((p : ℕ) → flag_at r.failed p ≡ (flag_at before.failed p || not (times p (take k dependents) == 0)))
    → (p : ℕ) → flag_at (with_failed r (get_or dependents k 0)).failed p
    ≡ (flag_at before.failed p || not (times p (take (k + 1) dependents) == 0))
failed_step before r dependents n k l size there now p =
    let q = get_or dependents k 0 in
    elim (cases_eq p q) [
      | inl e ↦
          let hit : cond (q == p) 1 0 ≡ 1 = ap {B = ℕ} (λ b. cond b 1 0) (eq-eqb q p (sym e)) in
          let more : times p (take (k + 1) dependents) ≡ times p (take k dependents) + 1 =
          omega (arith, hit, times_more p dependents k l) in
          ap (λ i. flag_at (set r.failed q true) i) e
          ∙ get_or-set_same r.failed q true false (omega (arith, size.failed, there))
          ∙ or_yes (flag_at before.failed p)
          ∙ ap (λ b. flag_at before.failed p || b) (sym (not_zero (times p (take k dependents))))
          ∙ ap (λ (m : ℕ). flag_at before.failed p || not (m == 0)) (sym more)
      | inr other ↦
          let miss : cond (q == p) 1 0 ≡ 0 = ap {B = ℕ} (λ b. cond b 1 0) (ne_eqb q p (λ e. other (sym e))) in
          let same : times p (take (k + 1) dependents) ≡ times p (take k dependents) =
          omega (arith, miss, times_more p dependents k l) in
          get_or-set_other r.failed q p true false other ∙ now p
          ∙ ap (λ (m : ℕ). flag_at before.failed p || not (m == 0)) (sym same)
    ]

-- ## The beginning

-- the flags of the pips before one are those of pips that wait, and no other is set
pub record AreFlaggedBelow (r : Readiness) (i : ℕ) : Type 0 where
  pub starts : (p : ℕ) → p < i → flag_at r.starts p ≡ (missing_at r p == 0)
  pub skips : (p : ℕ) → p < i → flag_at r.skips p ≡ flag_at r.failed p

-- once all pips were gone through, all flags are those of pips that wait
pub flagged_of_all : (r : Readiness) (n i : ℕ) → HasSize r n → n ≤ i → AreFlaggedBelow r i → AreFlagged (all_waiting n) r
flagged_of_all r n i size all h = record {
  starts = λ p. elim (cases_lt p n) [
    | inl l ↦
        let waits : state_at (all_waiting n) p ≡ state.Waiting = get_or-replicate n p state.Waiting state.Skipped l in
        h.starts p (omega (arith, l, all)) ∙ ap (λ s. is_waiting s && (missing_at r p == 0)) (sym waits)
    | inr past ↦
        let gone : state_at (all_waiting n) p ≡ state.Skipped =
        get_or_past (all_waiting n) p state.Skipped (omega (arith, length-replicate {A = PipState} n state.Waiting, past)) in
        get_or_past r.starts p false (omega (arith, size.starts, past)) ∙ ap (λ s. is_waiting s && (missing_at r p == 0)) (sym gone)
  ];
  skips = λ p. elim (cases_lt p n) [
    | inl l ↦
        let waits : state_at (all_waiting n) p ≡ state.Waiting = get_or-replicate n p state.Waiting state.Skipped l in
        h.skips p (omega (arith, l, all)) ∙ ap (λ s. is_waiting s && flag_at r.failed p) (sym waits)
    | inr past ↦
        let gone : state_at (all_waiting n) p ≡ state.Skipped =
        get_or_past (all_waiting n) p state.Skipped (omega (arith, length-replicate {A = PipState} n state.Waiting, past)) in
        get_or_past r.skips p false (omega (arith, size.skips, past)) ∙ ap (λ s. is_waiting s && flag_at r.failed p) (sym gone)
  ];
}
