-- What is read from lists of states and workers after a write.
use Rattle.std.proofs.Common.{◌≡◌, ℕ, ◌<◌, List, length, set, ap, sym, ◌∙◌, inl, inr, subst}
use Rattle.std.proofs.lemmas.Bool.{cases_eq, cases_lt}
use Rattle.std.proofs.lemmas.List.{get_or-set_same, get_or-set_other, get_or_past}
use Rattle.sched_core.specs.Table.{state_at}
use Rattle.sched_core.specs.declared.state.PipState.{PipState}
use Rattle.sched_core.specs.declared.state.PipState.TheVariants as state

pub state_at-same : (states : List PipState) (q : ℕ) (x : PipState) → q < length states → state_at (set states q x) q ≡ x
state_at-same states q x there = get_or-set_same states q x state.Skipped there

pub state_at-other : (states : List PipState) (q p : ℕ) (x : PipState) → (p ≡ q → ⊥) → state_at (set states q x) p ≡ state_at states p
state_at-other states q p x other = get_or-set_other states q p x state.Skipped other

-- a pip whose state is not that of a skipped one is there
pub is_there : (states : List PipState) (q : ℕ) → (state_at states q ≡ state.Skipped → ⊥) → q < length states
is_there states q other = elim (cases_lt q (length states)) [
  | inl there ↦ there
  | inr past ↦ absurd (other (get_or_past states q state.Skipped past))
]

-- a test holds of a pip's state after a write: of what was written, or of another pip as before
pub after_write : (P : PipState → Type 0) (states : List PipState) (q p : ℕ) (x : PipState) → q < length states
    → (p ≡ q → P x) → ((p ≡ q → ⊥) → P (state_at states p)) → P (state_at (set states q x) p)
after_write P states q p x there same other = elim (cases_eq p q) [
  | inl e ↦
      let at : state_at (set states q x) p ≡ x = ap (λ k. state_at (set states q x) k) e ∙ state_at-same states q x there in
      subst P (sym at) (same e)
  | inr n ↦ subst P (sym (state_at-other states q p x n)) (other n)
]
