-- References to processes, compared by the descriptions of what they refer to.
use Rattle.std.proofs.Common.{◌≡◌, refl}
use Rattle.std.specs.Cmp.{IsEquivalence, IsPartialEquivalence, IsPartialOrder, IsTotalOrder}
use Rattle.std.specs.Cmp.{partial_equiv_from_equiv, po}
use Rattle.std.specs.Ordering.{as_partial_cmp, eq_by_cmp, on}
use Rattle.std.specs.declared.cmp.Ordering.{Ordering}
use Rattle.std.proofs.lemmas.Cmp.{eq_by_cmp_equiv, on_total}
use Rattle.std.specs.BTreeSet.{BTreeSet}
use Rattle.std.specs.List.{Any}
use Rattle.pip_model_types.specs.declared.pip.ProcessDesc.{ProcessDesc}
use Rattle.graph_check.specs.Descriptions.{description}
use Rattle.graph_check.specs.Orders.{process_cmp_total}
use Rattle.graph_check.specs.ProcessOrder.{process_cmp}
use Rattle.graph_check.specs.declared.twin.Described.{Described}

abbrev pub described_cmp : Described → Described → Ordering
described_cmp = on (λ (d : Described). d.process.now) process_cmp

pub described_total : IsTotalOrder described_cmp
described_total = on_total (λ (d : Described). d.process.now) process_cmp_total

pub described_equiv : IsEquivalence (eq_by_cmp described_cmp)
described_equiv = eq_by_cmp_equiv described_total

pub described_matches : (x y : Described) → eq_by_cmp described_cmp x y ≡ eq_by_cmp described_cmp x y
described_matches x y = refl

pub described_partial_eq : IsPartialEquivalence (eq_by_cmp described_cmp)
described_partial_eq = partial_equiv_from_equiv described_equiv

pub described_partial : IsPartialOrder (eq_by_cmp described_cmp) (as_partial_cmp described_cmp)
described_partial = po described_total described_matches

-- the set has a process of this description
abbrev pub HasDescribed : BTreeSet Described → ProcessDesc → Type 0
HasDescribed seen d = Any (λ (x : Described). description x.process.now ≡ d) seen.keys
