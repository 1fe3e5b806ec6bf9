-- Searches for the first number at which something holds, and for the first pip with an item of some kind.
use Rattle.std.proofs.Common.{inl, inr, ◌≡◌, ℕ, ◌+◌, ◌<◌, ◌≤◌, List, length, get_or, Some, refl, subst, arith}
use Rattle.std.specs.List.{Any}
use Rattle.std.proofs.lemmas.Bool.{cases_lt}
use Rattle.std.proofs.lemmas.Option.{slice_get_read}
use Rattle.pip_model_types.specs.declared.pip.Pip.{Pip}
use Rattle.pip_model_types.specs.declared.pip.PipKind.{PipKind}
use Rattle.graph_check_outputs.specs.Outputs.{PipHas}
use Rattle.graph_check_outputs.specs.Firsts.{IsFirst}
use Rattle.graph_check_outputs.proofs.Has.{any_from_some, has_within, some_from_any}

-- one number more at which it does not hold
pub none_more : (P : ℕ → Type 0) (i : ℕ) → ((j : ℕ) → j < i → P j → ⊥) → (P i → ⊥) → (j : ℕ) → j < i + 1 → P j → ⊥
none_more P i none not j l p = elim (cases_lt j i) [
  | inl below ↦ none j below p
  | inr above ↦ let e : j ≡ i = omega arith in not (subst P e p)
]

-- a property holds nowhere if it holds below n alone, and nowhere below i, which is n or more
pub none_at_all : (P : ℕ → Type 0) (n i : ℕ) → n ≤ i → ((j : ℕ) → P j → j < n) → ((j : ℕ) → j < i → P j → ⊥) → (j : ℕ) → P j → ⊥
none_at_all P n i l within none j p = let below = within j p in none j (omega (arith, below, l)) p

-- pip i has an item of which P holds
abbrev pub HasSome : {X : Type 0} → (PipKind → List X) → (X → Type 0) → List Pip → ℕ → Type 0
HasSome {X} items P pips i = (x : X) × PipHas items pips i x × P x

pub found_first : {X : Type 0} (items : PipKind → List X) (P : X → Type 0) (pips : List Pip) (i : ℕ) (pip : Pip) → i < length pips
    → pip ≡ get_or pips i pip → Any P (items pip.kind) → ((j : ℕ) → j < i → HasSome items P pips j → ⊥) → IsFirst (HasSome items P pips) (Some i)
found_first items P pips i pip l e any none =
    (some_from_any items P pips i pip (slice_get_read pips (length pips) i pip refl l e) any, none)

pub found_none : {X : Type 0} (items : PipKind → List X) (P : X → Type 0) (pips : List Pip) (i : ℕ) (pip : Pip) → i < length pips
    → pip ≡ get_or pips i pip → (Any P (items pip.kind) → ⊥) → ((j : ℕ) → j < i → HasSome items P pips j → ⊥)
    → (j : ℕ) → j < i + 1 → HasSome items P pips j → ⊥
found_none items P pips i pip l e not none =
    none_more (HasSome items P pips) i none
    (λ h. not (any_from_some items P pips i pip (slice_get_read pips (length pips) i pip refl l e) h))

pub none_has : {X : Type 0} (items : PipKind → List X) (P : X → Type 0) (pips : List Pip) (i : ℕ) → length pips ≤ i
    → ((j : ℕ) → j < i → HasSome items P pips j → ⊥) → (j : ℕ) → HasSome items P pips j → ⊥
none_has items P pips i l none =
    none_at_all (HasSome items P pips) (length pips) i l (λ j (x, h, p). has_within items pips j x h) none
