-- What lookups, one after another, leave of a reader.
use Rattle.std.specs.Prelude.{◌≡◌, ℕ, ◌+◌, ◌<◌, ◌≤◌, Option, Some, None, IsSome}
use Rattle.bx_io.specs.Causes.{CanRise, HasCause, IsWithin}
use Rattle.bx_io.specs.Holdings.{Holdings}
use Rattle.bx_io.specs.Told.{Stays}

-- what a reader tells of its holdings, how often it may fail, and how often it failed
pub record ReaderData : Type 0 where
  pub held : Option Holdings
  pub bound : Option ℕ
  pub faults : ℕ

abbrev pub reader_data : Option Holdings → Option ℕ → ℕ → ReaderData
reader_data held bound faults = record { held = held; bound = bound; faults = faults }

-- What the reader still tells it told before; it has its bound, and its count of faults stays within that. The count never falls, rose where
-- a fault is counted here, and is as it was where none is; where there is a bound, it rose by as many as are counted here at least.
pub record ReadsOn (before now : ReaderData) (counted : ℕ) : Type 0 where
  pub held_is : Stays before.held now.held
  pub bound_is : now.bound ≡ before.bound
  pub within : IsWithin before.bound before.faults → IsWithin now.bound now.faults
  pub can_rise : CanRise before.bound before.faults → CanRise now.bound now.faults
  pub cause : HasCause before.faults now.faults (0 < counted)
  pub no_fault : counted ≡ 0 → now.faults ≡ before.faults
  pub rose : CanRise before.bound before.faults → IsSome before.bound → before.faults + counted ≤ now.faults

-- That of a reader that is there; without one no fault is counted.
abbrev pub ReadsIfAny : Option ReaderData → Option ReaderData → ℕ → Type 0
ReadsIfAny None None counted = counted ≡ 0
ReadsIfAny None (Some now) counted = ⊥
ReadsIfAny (Some before) None counted = ⊥
ReadsIfAny (Some before) (Some now) counted = ReadsOn before now counted
