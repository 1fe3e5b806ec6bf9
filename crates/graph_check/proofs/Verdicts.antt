-- The first fault of pips, found by the tests of the rules.
use Rattle.std.proofs.Common.{inl, inr, ◌≡◌, ℕ, zero, suc, ◌<◌, Bool, true, false, List, length, Some, None, arith, refl, subst, sym}
use Rattle.std.specs.Prelude.{Option, IsSomeAnd}
use Rattle.std.specs.Bool.{Decides}
use Rattle.std.proofs.lemmas.Bool.{cases_lt, false≢true}
use Rattle.std.proofs.lemmas.Option.{slice_get_cases}
use Rattle.bx_tree.specs.Paths.{Atoms}
use Rattle.bx_tree.specs.Trees.{Files}
use Rattle.pip_model_types.specs.declared.pip.Pip.{Pip}
use Rattle.graph_check.specs.declared.fault.GraphKind.{GraphKind}
use Rattle.graph_check.specs.declared.fault.GraphKind.TheVariants.{DoubleProducer, Overlap, NoSuchSource, OutsideOut, Twin, Limit}
use Rattle.graph_check.specs.Rules.{FailsAt, HasAnswer, IsFirstBrokenRule, KeepsRules, RuleHolds, rank}
use Rattle.graph_check.proofs.Answering.{all_hold, by_rank, fails_within}
use Rattle.graph_check.proofs.Deciding.{Decides-fails, fails_test}

-- the first number below n that passes the test
abbrev pub or_else : Option ℕ → Bool → ℕ → Option ℕ
or_else (Some i) b n = Some i
or_else None true n = Some n
or_else None false n = None

abbrev pub first_below : (ℕ → Bool) → ℕ → Option ℕ
first_below p zero = None
first_below p (suc n) = or_else (first_below p n) (p n) n

-- the first number below n that has a property, or none
abbrev IsFirstBelow : (ℕ → Type 0) → ℕ → Option ℕ → Type 0
IsFirstBelow P n None = (i : ℕ) → i < n → P i → ⊥
IsFirstBelow P n (Some i) = (i < n) × P i × ((j : ℕ) → j < i → P j → ⊥)

next_below : (p : Bool) (P : ℕ → Type 0) (n : ℕ) → Decides p (P n) → (o : Option ℕ) → IsFirstBelow P n o → IsFirstBelow P (suc n) (or_else o p n)
next_below p P n d (Some i) h = (omega (arith, h.0), h.1, h.2)
next_below true P n d None h = (omega arith, d.0 refl, h)
next_below false P n d None h = λ i l q. elim (cases_lt i n) [
  | inl less ↦ h i less q
  | inr more ↦ let here : i ≡ n = omega (arith, l, more) in false≢true (d.1 (subst P here q))
]

found_below : (p : ℕ → Bool) (P : ℕ → Type 0) → ((i : ℕ) → Decides (p i) (P i)) → (n : ℕ) → IsFirstBelow P n (first_below p n)
found_below p P each zero = λ i l q. omega (arith, l)
found_below p P each (suc n) = next_below (p n) P n (each n) (first_below p n) (found_below p P each n)

-- a rule with the first pip at which it fails, else what the later rules say
abbrev pub fault_or : GraphKind → Option ℕ → Option (GraphKind × ℕ) → Option (GraphKind × ℕ)
fault_or rule (Some i) later = Some (rule, i)
fault_or rule None later = later

abbrev first_pip : GraphKind → List Pip → Files → Option ℕ
first_pip rule pips tree = first_below (fails_test rule pips tree) (length pips)

-- the first rule that fails, with its pip
abbrev pub verdict : List Pip → Files → Option (GraphKind × ℕ)
verdict pips tree =
    fault_or DoubleProducer (first_pip DoubleProducer pips tree)
    (fault_or Overlap (first_pip Overlap pips tree)
    (fault_or NoSuchSource (first_pip NoSuchSource pips tree)
    (fault_or OutsideOut (first_pip OutsideOut pips tree)
    (fault_or Twin (first_pip Twin pips tree) (fault_or Limit (first_pip Limit pips tree) None)))))

-- what a verdict says of the pips
abbrev pub IsRight : List Pip → Files → Option (GraphKind × ℕ) → Type 0
IsRight pips tree None = KeepsRules pips tree
IsRight pips tree (Some (rule, i)) = (file : Atoms) × IsFirstBrokenRule pips tree rule i file

-- the first failure of a rule is a first fault where all rules before it hold
right_by : (rule : GraphKind) (pips : List Pip) (tree : Files) (later : Option (GraphKind × ℕ))
    → ((other : GraphKind) → rank other < rank rule → RuleHolds other pips tree) → (RuleHolds rule pips tree → IsRight pips tree later)
    → (o : Option ℕ) → IsFirstBelow (FailsAt rule pips tree) (length pips) o → IsRight pips tree (fault_or rule o later)
right_by rule pips tree later earlier right None h = right (λ i fails. h i (fails_within rule pips tree i fails) fails)
right_by rule pips tree later earlier right (Some i) h = elim (slice_get_cases pips i).1 [
  | inl (pip, within, e, is) ↦ (
    pip.spec,
    record {
      earlier_rules = earlier;
      earlier_pips = h.2;
      fails = h.1;
      spec = subst (λ o. IsSomeAnd o (λ (p : Pip). p.spec ≡ pip.spec)) (sym e) refl;
    },
  )
  | inr (past, e) ↦ absurd (omega (arith, h.0, past))
]

found : (rule : GraphKind) (pips : List Pip) (tree : Files) → IsFirstBelow (FailsAt rule pips tree) (length pips) (first_pip rule pips tree)
found rule pips tree = found_below (fails_test rule pips tree) (FailsAt rule pips tree) (Decides-fails rule pips tree) (length pips)

pub verdict_is_right : (pips : List Pip) (tree : Files) → IsRight pips tree (verdict pips tree)
verdict_is_right pips tree =
    right_by DoubleProducer pips tree _ (by_rank pips tree 1 (λ l. absurd (omega (arith, l))) (λ l. absurd (omega (arith, l))) (λ l. absurd (omega (arith, l)))
    (λ l. absurd (omega (arith, l))) (λ l. absurd (omega (arith, l))) (λ l. absurd (omega (arith, l))))
    (λ a. right_by Overlap pips tree _ (by_rank pips tree 2 (λ l. a) (λ l. absurd (omega (arith, l))) (λ l. absurd (omega (arith, l)))
    (λ l. absurd (omega (arith, l))) (λ l. absurd (omega (arith, l))) (λ l. absurd (omega (arith, l))))
    (λ b. right_by NoSuchSource pips tree _ (by_rank pips tree 3 (λ l. a) (λ l. b) (λ l. absurd (omega (arith, l)))
    (λ l. absurd (omega (arith, l))) (λ l. absurd (omega (arith, l))) (λ l. absurd (omega (arith, l))))
    (λ c. right_by OutsideOut pips tree _ (by_rank pips tree 4 (λ l. a) (λ l. b) (λ l. c) (λ l. absurd (omega (arith, l)))
    (λ l. absurd (omega (arith, l))) (λ l. absurd (omega (arith, l))))
    (λ d. right_by Twin pips tree _ (by_rank pips tree 5 (λ l. a) (λ l. b) (λ l. c) (λ l. d) (λ l. absurd (omega (arith, l)))
    (λ l. absurd (omega (arith, l))))
    (λ e. right_by Limit pips tree _ (by_rank pips tree 6 (λ l. a) (λ l. b) (λ l. c) (λ l. d) (λ l. e) (λ l. absurd (omega (arith, l))))
    (λ f. all_hold pips tree a b c d e f)
    (first_pip Limit pips tree) (found Limit pips tree))
    (first_pip Twin pips tree) (found Twin pips tree))
    (first_pip OutsideOut pips tree) (found OutsideOut pips tree))
    (first_pip NoSuchSource pips tree) (found NoSuchSource pips tree))
    (first_pip Overlap pips tree) (found Overlap pips tree))
    (first_pip DoubleProducer pips tree) (found DoubleProducer pips tree)

-- pips keep the rules or have a first fault
pub some_answer_lem : (pips : List Pip) (tree : Files) → HasAnswer pips tree
some_answer_lem pips tree = at (verdict pips tree) (verdict_is_right pips tree)
  where
    at : (o : Option (GraphKind × ℕ)) → IsRight pips tree o → HasAnswer pips tree
    at None h = inl h
    at (Some (rule, i)) h = inr (rule, i, h.0, h.1)
