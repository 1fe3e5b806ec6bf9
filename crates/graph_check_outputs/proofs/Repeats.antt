-- The first pip with an item that an earlier pip has.
use Rattle.std.proofs.Common.{inl, inr, ◌⊎◌, ◌≡◌, ℕ, ◌+◌, ◌<◌, List, length, Some, subst, arith}
use Rattle.std.specs.Prelude.{◌↔◌, slice_get}
use Rattle.std.specs.List.{Any, Contains}
use Rattle.std.proofs.lemmas.Bool.{cases_lt}
use Rattle.pip_model_types.specs.declared.pip.Pip.{Pip}
use Rattle.pip_model_types.specs.declared.pip.PipKind.{PipKind}
use Rattle.graph_check_outputs.specs.Outputs.{PipHas}
use Rattle.graph_check_outputs.proofs.Has.{has_there, has_within, there_has}

-- a pip before pip i has x among its items
abbrev pub IsBefore : {X : Type 0} → (PipKind → List X) → List Pip → ℕ → X → Type 0
IsBefore items pips i x = (j : ℕ) × (j < i) × PipHas items pips j x

-- pip i has an item that an earlier pip has
abbrev pub RepeatsAt : {X : Type 0} → (PipKind → List X) → List Pip → ℕ → Type 0
RepeatsAt {X} items pips i = (j : ℕ) × (j < i) × ((x : X) × PipHas items pips i x × PipHas items pips j x)

pub repeats : {X : Type 0} (items : PipKind → List X) (pips : List Pip) (i : ℕ) (pip : Pip) → slice_get pips i ≡ Some pip
    → Any (IsBefore items pips i) (items pip.kind) → RepeatsAt items pips i
repeats items pips i pip e (k, x, l, is, (j, below, has)) = (j, below, (x, has_there items pips i pip x e (k, l, is), has))

pub no_repeat : {X : Type 0} (items : PipKind → List X) (pips : List Pip) (i : ℕ) (pip : Pip) → slice_get pips i ≡ Some pip
    → (Any (IsBefore items pips i) (items pip.kind) → ⊥) → RepeatsAt items pips i → ⊥
no_repeat items pips i pip e none (j, below, (x, has, had)) =
    let c = there_has items pips i pip x e has in none (c.0, x, c.1, c.2, (j, below, had))

pub repeats_within : {X : Type 0} (items : PipKind → List X) (pips : List Pip) (i : ℕ) → RepeatsAt items pips i → i < length pips
repeats_within items pips i (j, below, (x, has, had)) = has_within items pips i x has

-- what is before the next pip
pub before_more : {X : Type 0} (items : PipKind → List X) (pips : List Pip) (i : ℕ) (pip : Pip) (x : X) → slice_get pips i ≡ Some pip
    → IsBefore items pips (i + 1) x ↔ (IsBefore items pips i x ⊎ Contains (items pip.kind) x)
before_more {X} items pips i pip x e = (
  λ (j, below, has). elim (cases_lt j i) [
    | inl old ↦ inl (j, old, has)
    | inr last ↦ let same : j ≡ i = omega arith in inr (there_has items pips i pip x e (subst (λ n. PipHas items pips n x) same has))
  ],
  λ h. elim h [
    | inl (j, below, has) ↦ (j, omega (arith, below), has)
    | inr c ↦ (i, omega arith, has_there items pips i pip x e c)
  ],
)

-- what holds of some element holds of it too if it follows from that
pub any_along : {X : Type 0} (P Q : X → Type 0) (xs : List X) → ((x : X) → P x → Q x) → Any P xs → Any Q xs
any_along P Q xs into (k, x, l, is, p) = (k, x, l, is, into x p)

-- none is before the first pip
pub none_before : {X : Type 0} (items : PipKind → List X) (pips : List Pip) (x : X) → IsBefore items pips 0 x → ⊥
none_before items pips x (j, below, has) = absurd (omega (arith, below))

-- S holds of just what is before pip i
abbrev pub IsSoFar : {X : Type 0} → (PipKind → List X) → List Pip → ℕ → (X → Type 0) → Type 0
IsSoFar {X} items pips i S = (x : X) → S x ↔ IsBefore items pips i x

pub so_far_none : {X : Type 0} (items : PipKind → List X) (pips : List Pip) (S : X → Type 0) → ((x : X) → S x → ⊥) → IsSoFar items pips 0 S
so_far_none items pips S none x = (λ s. absurd (none x s), λ b. absurd (none_before items pips x b))

pub so_far_more : {X : Type 0} (items : PipKind → List X) (pips : List Pip) (i : ℕ) (pip : Pip) (S T : X → Type 0) → slice_get pips i ≡ Some pip
    → IsSoFar items pips i S → ((x : X) → T x ↔ (S x ⊎ Contains (items pip.kind) x)) → IsSoFar items pips (i + 1) T
so_far_more items pips i pip S T e so_far added x =
    let more = before_more items pips i pip x e in (
      λ t. elim ((added x).0 t) [
        | inl s ↦ more.1 (inl ((so_far x).0 s))
        | inr c ↦ more.1 (inr c)
      ],
      λ b. elim (more.0 b) [
        | inl old ↦ (added x).1 (inl ((so_far x).1 old))
        | inr c ↦ (added x).1 (inr c)
      ],
    )

-- an item of pip i of which S holds is a repeat, and without one pip i has none
pub so_far_repeats : {X : Type 0} (items : PipKind → List X) (pips : List Pip) (i : ℕ) (pip : Pip) (S : X → Type 0) → slice_get pips i ≡ Some pip
    → IsSoFar items pips i S → Any S (items pip.kind) → RepeatsAt items pips i
so_far_repeats items pips i pip S e so_far any =
    repeats items pips i pip e (any_along S (IsBefore items pips i) (items pip.kind) (λ x. (so_far x).0) any)

pub so_far_no_repeat : {X : Type 0} (items : PipKind → List X) (pips : List Pip) (i : ℕ) (pip : Pip) (S : X → Type 0) → slice_get pips i ≡ Some pip
    → IsSoFar items pips i S → (Any S (items pip.kind) → ⊥) → RepeatsAt items pips i → ⊥
so_far_no_repeat items pips i pip S e so_far none =
    no_repeat items pips i pip e (λ any. none (any_along (IsBefore items pips i) S (items pip.kind) (λ x. (so_far x).1) any))
