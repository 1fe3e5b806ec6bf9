-- What calls leave of a reader and of a store.
use Rattle.std.specs.Prelude.{◌≡◌, ℕ, Option}
use Rattle.bx_io.specs.Causes.{CanRise, HasCause, IsWithin}
use Rattle.bx_io.specs.Holdings.{Holdings}
use Rattle.bx_io.specs.Told.{Stays}

-- What the reader still tells it told before, its bound is as it was, its count of faults stays within it, and the count
-- rose just where the call answered a fault.
pub record ReaderCall (held now_held : Option Holdings) (bound now_bound : Option ℕ) (faults now_faults : ℕ)
    (fault : Type 0) : Type 0 where
  pub held_is : Stays held now_held
  pub bound_is : now_bound ≡ bound
  pub within : IsWithin bound faults → IsWithin now_bound now_faults
  pub can_rise : CanRise bound faults → CanRise now_bound now_faults
  pub cause : HasCause faults now_faults fault
  pub no_fault : ¬ fault → now_faults ≡ faults

-- The store's bound is as it was, and its count of faults rose just where the call answered a fault; after
-- that it can still rise.
pub record KeeperCall (bound now_bound : Option ℕ) (faults now_faults : ℕ) (fault : Type 0) : Type 0 where
  pub bound_is : now_bound ≡ bound
  pub can_rise : CanRise bound faults → CanRise now_bound now_faults
  pub fault_can_rise : fault → CanRise now_bound now_faults
  pub cause : HasCause faults now_faults fault
  pub no_fault : ¬ fault → now_faults ≡ faults
