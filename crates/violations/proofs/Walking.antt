-- Walks of edges, found by a search along at most as many edges as there are pips.
use Rattle.std.proofs.Common.{◌≡◌, ℕ, zero, suc, ◌<◌, ◌≤◌, ◌==◌, true, ◌||◌, List, [], length, get_or, Option, Some, None, refl, subst, arith, inl, inr}
use Rattle.std.specs.Bool.{Decides}
use Rattle.std.specs.Prelude.{IsSomeAnd, slice_get}
use Rattle.std.specs.List.{Contains, list_any}
use Rattle.std.proofs.lemmas.Bool.Decides.{Decides-eqb}
use Rattle.std.proofs.lemmas.List.Folds.{Any-from_list_any, list_any-from_Any}
use Rattle.std.proofs.lemmas.Bool.{or_cases, or_left, or_right}
use Rattle.pip_model_types.specs.declared.pip.Pip.{Pip}
use Rattle.pip_model_types.specs.Makers.{IsPipList}
use Rattle.pip_model.specs.Edges.{Edge, Leads, targets}
use Rattle.pip_model.specs.Walks.{One, Step}
use Rattle.pip_model.proofs.EdgesBack.{edge_back, in_range}
use Rattle.violations.specs.Leading.{leads, leads_within, targets_at}

-- ## Edges

edge_to : (pips : List Pip) (o : Option Pip) (j : ℕ) → Contains (targets_at pips o) j
    → IsSomeAnd o (λ (pip : Pip). Contains (targets pips pip.kind) j)
edge_to pips None j (k, l, e) = absurd (omega (arith, l))
edge_to pips (Some pip) j c = c

to_edge : (pips : List Pip) (o : Option Pip) (j : ℕ) → IsSomeAnd o (λ (pip : Pip). Contains (targets pips pip.kind) j)
    → Contains (targets_at pips o) j
to_edge pips None j h = absurd h
to_edge pips (Some pip) j h = h

-- ## Walks

-- what the search finds is a walk
found_walk : (edges : ℕ) (pips : List Pip) (i k : ℕ) → leads_within edges pips i k ≡ true → Leads pips i k
found_walk zero pips i k e = cc
found_walk (suc edges) pips i k e =
    let (at, j, l, is, h) = Any-from_list_any (λ j. j == k || leads_within edges pips j k) (targets_at pips (slice_get pips i)) e in
    let edge : Edge pips i j = edge_to pips (slice_get pips i) j (at, l, is) in
    elim (or_cases (j == k) (leads_within edges pips j k) h) [
      | inl same ↦ subst (Leads pips i) ((Decides-eqb j k).0 same) (One i j edge)
      | inr more ↦ Step i j k edge (found_walk edges pips j k more)
    ]

-- the search goes along an edge
along : (edges : ℕ) (pips : List Pip) (i j k : ℕ) → Edge pips i j → (j == k || leads_within edges pips j k) ≡ true
    → leads_within (suc edges) pips i k ≡ true
along edges pips i j k edge h =
    let (at, l, is) = to_edge pips (slice_get pips i) j edge in
    list_any-from_Any (λ m. m == k || leads_within edges pips m k) (targets_at pips (slice_get pips i)) (at, j, l, is, h)

-- a walk from a pip is found within as many edges as its number
walk_found : (pips : List Pip) → IsPipList pips → (i k : ℕ) → Leads pips i k → (edges : ℕ) → i ≤ edges → leads_within edges pips i k ≡ true
walk_found pips list i k (One a b e) zero l = let back = edge_back pips list a b e in absurd (omega (arith, l, back))
walk_found pips list i k (One a b e) (suc edges) l =
    along edges pips a b b e (or_left (b == b) (leads_within edges pips b b) ((Decides-eqb b b).1 refl))
walk_found pips list i k (Step a b c e w) zero l = let back = edge_back pips list a b e in absurd (omega (arith, l, back))
walk_found pips list i k (Step a b c e w) (suc edges) l =
    let back = edge_back pips list a b e in
    along edges pips a b c e
    (or_right (b == c) (leads_within edges pips b c) (walk_found pips list b c w edges (omega (arith, l, back))))

-- a walk begins at a pip of the list
begins : (pips : List Pip) (i k : ℕ) → Leads pips i k → i < length pips
begins pips i k (One a b e) = in_range pips a (λ (pip : Pip). Contains (targets pips pip.kind) b) e
begins pips i k (Step a b c e w) = in_range pips a (λ (pip : Pip). Contains (targets pips pip.kind) b) e

pub leads_decides : (pips : List Pip) → IsPipList pips → (i k : ℕ) → Decides (leads pips i k) (Leads pips i k)
leads_decides pips list i k = (
  found_walk (length pips) pips i k,
  λ w. let l = begins pips i k w in walk_found pips list i k w (length pips) (omega (arith, l)),
)
