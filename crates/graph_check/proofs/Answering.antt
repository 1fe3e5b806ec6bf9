-- Which rule fails first, and what is known where none does.
use Rattle.std.proofs.Common.{inl, inr, ◌≡◌, ℕ, ◌<◌, ◌≤◌, List, length, get_or, refl, subst, sym}
use Rattle.std.specs.Prelude.{IsSomeAnd, slice_get}
use Rattle.std.proofs.lemmas.Bool.{cases_lt}
use Rattle.std.proofs.lemmas.Option.{slice_get_read}
use Rattle.bx_tree.specs.Paths.{Atoms}
use Rattle.bx_tree.specs.Trees.{Files}
use Rattle.pip_model_types.specs.declared.pip.Pip.{Pip}
use Rattle.pip_model.specs.declared.plan.TheConstants.{MAX_PIPS}
use Rattle.graph_check.specs.declared.fault.GraphKind.{GraphKind}
use Rattle.graph_check.specs.declared.fault.GraphKind.TheVariants.{DoubleProducer, Overlap, NoSuchSource, OutsideOut, Twin, Limit}
use Rattle.graph_check.specs.NoSuchSource.{named_sources}
use Rattle.graph_check_outputs.specs.Outputs.{declared_files, outputs}
use Rattle.graph_check.specs.Rules.{FailsAt, KeepsRules, RuleHolds, rank}
use Rattle.graph_check.specs.Twin.{descriptions}
use Rattle.graph_check_outputs.proofs.Has.{has_within}
use Rattle.graph_check_outputs.proofs.Prefixes.{overlaps_within}
use Rattle.graph_check_outputs.proofs.Repeats.{repeats_within}

-- a rule fails at a pip of the list alone
pub fails_within : (rule : GraphKind) (pips : List Pip) (tree : Files) (i : ℕ) → FailsAt rule pips tree i → i < length pips
fails_within DoubleProducer pips tree i h = repeats_within declared_files pips i h
fails_within Overlap pips tree i (j, l, h) = elim h [ inl o ↦ (overlaps_within pips i j o).0 | inr o ↦ (overlaps_within pips j i o).1 ]
fails_within NoSuchSource pips tree i (path, h, n) = has_within named_sources pips i path h
fails_within OutsideOut pips tree i (path, h, n) = has_within outputs pips i path h
fails_within Twin pips tree i h = repeats_within descriptions pips i h
fails_within Limit pips tree i h = h.0

-- the specification file of a pip of the list
pub spec_at : (pips : List Pip) (i : ℕ) (pip : Pip) (file : Atoms) → i < length pips → pip ≡ get_or pips i pip → file ≡ pip.spec
    → IsSomeAnd (slice_get pips i) (λ (p : Pip). p.spec ≡ file)
spec_at pips i pip file l e is =
    subst (λ o. IsSomeAnd o (λ (p : Pip). p.spec ≡ file)) (sym (slice_get_read pips (length pips) i pip refl l e)) (sym is)

-- the rules of a rank below some number hold if each does
pub by_rank : (pips : List Pip) (tree : Files) (n : ℕ) → (1 < n → RuleHolds DoubleProducer pips tree) → (2 < n → RuleHolds Overlap pips tree)
    → (3 < n → RuleHolds NoSuchSource pips tree) → (4 < n → RuleHolds OutsideOut pips tree) → (5 < n → RuleHolds Twin pips tree)
    → (6 < n → RuleHolds Limit pips tree) → (rule : GraphKind) → rank rule < n → RuleHolds rule pips tree
by_rank pips tree n a b c d e f DoubleProducer l = a l
by_rank pips tree n a b c d e f Overlap l = b l
by_rank pips tree n a b c d e f NoSuchSource l = c l
by_rank pips tree n a b c d e f OutsideOut l = d l
by_rank pips tree n a b c d e f Twin l = e l
by_rank pips tree n a b c d e f Limit l = f l

-- all rules hold if each does
pub all_hold : (pips : List Pip) (tree : Files) → RuleHolds DoubleProducer pips tree → RuleHolds Overlap pips tree → RuleHolds NoSuchSource pips tree
    → RuleHolds OutsideOut pips tree → RuleHolds Twin pips tree → RuleHolds Limit pips tree → KeepsRules pips tree
all_hold pips tree a b c d e f DoubleProducer = a
all_hold pips tree a b c d e f Overlap = b
all_hold pips tree a b c d e f NoSuchSource = c
all_hold pips tree a b c d e f OutsideOut = d
all_hold pips tree a b c d e f Twin = e
all_hold pips tree a b c d e f Limit = f

-- a list for which the limit holds is short enough for a plan
pub few : (pips : List Pip) (tree : Files) → KeepsRules pips tree → length pips ≤ MAX_PIPS
few pips tree keeps = elim (cases_lt MAX_PIPS (length pips)) [
  | inl more ↦ absurd (keeps Limit MAX_PIPS (more, refl))
  | inr less ↦ less
]
