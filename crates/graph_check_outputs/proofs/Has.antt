-- What the pip with a number has among its items, said of the pip that is there.
use Rattle.std.proofs.Common.{◌≡◌, ℕ, ◌<◌, List, length, Some, None, refl, subst, sym}
use Rattle.std.specs.Prelude.{Option, IsSomeAnd, slice_get}
use Rattle.std.specs.List.{Any, Contains}
use Rattle.std.proofs.lemmas.Option.{slice_get_within}
use Rattle.pip_model_types.specs.declared.pip.Pip.{Pip}
use Rattle.pip_model_types.specs.declared.pip.PipKind.{PipKind}
use Rattle.graph_check_outputs.specs.Outputs.{PipHas}

pub has_there : {X : Type 0} (items : PipKind → List X) (pips : List Pip) (i : ℕ) (pip : Pip) (x : X) → slice_get pips i ≡ Some pip
    → Contains (items pip.kind) x → PipHas items pips i x
has_there items pips i pip x e c = subst (λ o. IsSomeAnd o (λ (p : Pip). Contains (items p.kind) x)) (sym e) c

pub there_has : {X : Type 0} (items : PipKind → List X) (pips : List Pip) (i : ℕ) (pip : Pip) (x : X) → slice_get pips i ≡ Some pip
    → PipHas items pips i x → Contains (items pip.kind) x
there_has items pips i pip x e h = subst (λ o. IsSomeAnd o (λ (p : Pip). Contains (items p.kind) x)) e h

-- some pip has this number
pub has_within : {X : Type 0} (items : PipKind → List X) (pips : List Pip) (i : ℕ) (x : X) → PipHas items pips i x → i < length pips
has_within items pips i x h = at (slice_get pips i) refl h
  where
    at : (o : Option Pip) → slice_get pips i ≡ o → IsSomeAnd o (λ (p : Pip). Contains (items p.kind) x) → i < length pips
    at None e h = absurd h
    at (Some pip) e h = slice_get_within pips i pip e

pub some_from_any : {X : Type 0} (items : PipKind → List X) (P : X → Type 0) (pips : List Pip) (i : ℕ) (pip : Pip) → slice_get pips i ≡ Some pip
    → Any P (items pip.kind) → (x : X) × PipHas items pips i x × P x
some_from_any items P pips i pip e (k, x, l, is, p) = (x, has_there items pips i pip x e (k, l, is), p)

pub any_from_some : {X : Type 0} (items : PipKind → List X) (P : X → Type 0) (pips : List Pip) (i : ℕ) (pip : Pip) → slice_get pips i ≡ Some pip
    → (x : X) × PipHas items pips i x × P x → Any P (items pip.kind)
any_from_some items P pips i pip e (x, h, p) = let c = there_has items pips i pip x e h in (c.0, x, c.1, c.2, p)
