-- Records that are saved in one build are of processes with different weak texts.
use Rattle.std.proofs.Common.{◌≡◌, ◌⊎◌, ℕ, zero, suc, ◌+◌, ◌<◌, ◌≤◌, List, [], ◌∷◌, refl, ap, ◌∙◌, inl, inr, arith}
use Rattle.bx_tree.specs.Members.{Has}
use Rattle.bx_tree.specs.Trees.{Files}
use Rattle.bx_io.specs.Holdings.{Holdings, StoreTold}
use Rattle.pip_model_types.specs.Makers.{IsPipList}
use Rattle.pip_model_types.specs.declared.desc.Desc.{Desc}
use Rattle.pip_model_types.specs.declared.pip.Pip.{Pip}
use Rattle.observed.specs.declared.ask.Ask.{Ask}
use Rattle.observed.specs.declared.access.Answer.{Answer}
use Rattle.graph_check.specs.Rules.{KeepsRules}
use Rattle.run_record.specs.Facts.{Facts}
use Rattle.run_record.specs.Collisions.{NoCollision}
use Rattle.run_record.specs.Digests.{IsReadBack}
use Rattle.retire_compared.specs.Compared.{Compared}
use Rattle.two_phase.specs.Putting.{PutsUpTo}
use Rattle.retire.specs.Runs.{IsOfSuccess, NoneReserved, RunsAs}
use Rattle.retire.proofs.Twins.{one_described, one_process}
use Rattle.retire.specs.Builds.{Between}
use Rattle.retire.specs.Saving.{PutsEach}
use Rattle.retire.proofs.Stay.{AreApart, IsApart}

-- none of the records is of this pip
abbrev pub NoneAt : (pips : List Pip) (tree : Files) (budget : ℕ) → ℕ → (low high : ℕ) (fs : List Facts) → Between pips tree budget low high fs → Type 0
NoneAt pips tree budget i low high [] h = Unit {0}
NoneAt pips tree budget i low high (g ∷ gs) h = (h.0.pip ≡ i → ⊥) × NoneAt pips tree budget i (h.0.pip + 1) high gs h.2

module _ (pips : List Pip) (tree : Files) (list : IsPipList pips) (keeps : KeepsRules pips tree) (free : NoneReserved tree) (budget : ℕ) (S : Holdings)
    (apart : NoCollision (Compared pips tree budget S)) where
  -- a record of another pip is of a process with another weak text, if anything was put for it
  apart_by : (i : ℕ) (d : Desc) (see : Ask → Answer) → RunsAs pips tree budget i d see → IsReadBack d → (f : Facts) (s : IsOfSuccess pips tree budget f)
      → (s.pip ≡ i → ⊥) → (before between : StoreTold) (p : PutsUpTo before between f) → IsApart d f before between p
  apart_by i d see runs read f s other before between p = elim p.spelled [
    | inl none ↦ inl none
    | inr spelled ↦ inr (λ same. other (one_process pips tree list keeps free budget S s.pip i f.desc d s.see see apart s.runs runs spelled.weak read same))
  ]

  -- so are the records of later pips
  pub later_apart : (i : ℕ) (d : Desc) (see : Ask → Answer) → RunsAs pips tree budget i d see → IsReadBack d → (fs : List Facts) (low high : ℕ) → i < low
      → Between pips tree budget low high fs → (before now : StoreTold) (p : PutsEach before fs now) → AreApart d fs before now p
  later_apart i d see runs read [] low high l h before now p = tt
  later_apart i d see runs read (g ∷ gs) low high l h before now p =
      let least : low ≤ h.0.pip = h.1 in (
        apart_by i d see runs read g h.0 (λ same. absurd (omega (arith, same, least, l))) before p.0 p.1,
        later_apart i d see runs read gs (h.0.pip + 1) high (omega (arith, least, l)) h.2 p.0 now p.2,
      )

  -- and all records, where none is of the pip
  pub none_apart : (i : ℕ) (d : Desc) (see : Ask → Answer) → RunsAs pips tree budget i d see → IsReadBack d → (fs : List Facts) (low high : ℕ)
      → (h : Between pips tree budget low high fs) → NoneAt pips tree budget i low high fs h → (before now : StoreTold) (p : PutsEach before fs now)
      → AreApart d fs before now p
  none_apart i d see runs read [] low high h none before now p = tt
  none_apart i d see runs read (g ∷ gs) low high h none before now p = (
    apart_by i d see runs read g h.0 none.0 before p.0 p.1,
    none_apart i d see runs read gs (h.0.pip + 1) high h.2 none.1 p.0 now p.2,
  )

  -- none of the records is of what runs at this pip
  pub none_described : (i : ℕ) (d : Desc) (see : Ask → Answer) → RunsAs pips tree budget i d see → (fs : List Facts) (low high : ℕ)
      → (h : Between pips tree budget low high fs) → NoneAt pips tree budget i low high fs h → (f : Facts) → Has fs f → f.desc ≡ d → ⊥
  none_described i d see runs [] low high h none f has same = has
  none_described i d see runs (g ∷ gs) low high h none f has same = elim has [
    | inl here ↦
        none.0 (one_described pips tree list keeps free budget h.0.pip i g.desc d h.0.see see h.0.runs runs (ap (λ (x : Facts). x.desc) here ∙ same))
    | inr later ↦ none_described i d see runs gs (h.0.pip + 1) high h.2 none.1 f later same
  ]

-- a record is of the pip, or none is
abbrev pub SomeAt : (pips : List Pip) (tree : Files) (budget : ℕ) → ℕ → (low high : ℕ) (fs : List Facts) → Between pips tree budget low high fs → Type 0
SomeAt pips tree budget i low high [] h = ⊥
SomeAt pips tree budget i low high (g ∷ gs) h = (h.0.pip ≡ i) ⊎ SomeAt pips tree budget i (h.0.pip + 1) high gs h.2

same_number : (a b : ℕ) → (a ≡ b) ⊎ (a ≡ b → ⊥)
same_number zero zero = inl refl
same_number zero (suc b) = inr (λ e. absurd (omega (arith, e)))
same_number (suc a) zero = inr (λ e. absurd (omega (arith, e)))
same_number (suc a) (suc b) = elim (same_number a b) [
  | inl e ↦ inl (ap suc e)
  | inr other ↦ inr (λ e. other (omega (arith, e)))
]

pub some_at : (pips : List Pip) (tree : Files) (budget i : ℕ) (fs : List Facts) (low high : ℕ) (h : Between pips tree budget low high fs)
    → SomeAt pips tree budget i low high fs h ⊎ NoneAt pips tree budget i low high fs h
some_at pips tree budget i [] low high h = inr tt
some_at pips tree budget i (g ∷ gs) low high h = elim (same_number h.0.pip i) [
  | inl same ↦ inl (inl same)
  | inr other ↦ elim (some_at pips tree budget i gs (h.0.pip + 1) high h.2) [
    | inl later ↦ inl (inr later)
    | inr none ↦ inr (other, none)
  ]
]
