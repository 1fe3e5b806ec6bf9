-- What follows of a lock from the calls that were made.
use Rattle.std.proofs.Common.{◌≡◌, Bool, true, false, List, [], ◌∷◌, refl, inl, inr}
use Rattle.std.specs.Prelude.{not, ◌||◌, ◌⊎◌}
use Rattle.std.proofs.lemmas.Bool.{false≢true}
use Rattle.std.specs.declared.io.ErrorKind.{ErrorKind}
use Rattle.std.specs.declared.io.ErrorKind.TheVariants.{WouldBlock}
use Rattle.bx_io_disk.specs.Events.{Event}
use Rattle.bx_io_disk.specs.Files.{is_excluded, is_locked, lock_fault, locked_next}
use Rattle.bx_io_disk.specs.declared.kind.Kind.{Kind}
use Rattle.bx_io_disk.specs.declared.kind.Kind.TheVariants as kinds

pub excluded_fault : (kind : ErrorKind) (earlier : List Event) → is_excluded ((lock_fault kind, [], []) ∷ earlier) ≡ true → (kind ≡ WouldBlock) ⊎ (is_excluded earlier ≡ true)
excluded_fault WouldBlock earlier is = inl refl
excluded_fault _ earlier is = inr is

or_either : (b x y : Bool) → (x ≡ true → y ≡ true) → x ≡ true → (b || y) ≡ true
or_either true x y so is = refl
or_either false x y so is = so is

locked_any_next : (kind : Kind) (alone x y : Bool) → (x ≡ true → y ≡ true) → locked_next true kind x ≡ true → locked_next alone kind y ≡ true
locked_any_next kinds.Alone alone x y so is = refl
locked_any_next kinds.Shared alone x y so is = or_either (not alone) x y so is
locked_any_next _ alone x y so is = so is

-- who locked it alone may do what a shared lock allows
pub locked_any : (alone : Bool) (earlier : List Event) → is_locked true earlier ≡ true → is_locked alone earlier ≡ true
locked_any alone [] is = absurd (false≢true is)
locked_any alone (e ∷ earlier) is = locked_any_next e.0 alone (is_locked true earlier) (is_locked alone earlier) (locked_any alone earlier) is
