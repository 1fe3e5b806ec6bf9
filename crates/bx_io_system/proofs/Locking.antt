-- What follows of a lock from what the system answered.
use Rattle.std.proofs.Common.{◌≡◌, ◌∙◌, Bool, true, false, List, [], ◌∷◌, refl, sym, ap, Option, Some, IsSome, is_some, inl, inr}
use Rattle.std.specs.Prelude.{◌⊎◌}
use Rattle.std.proofs.lemmas.Bool.{false≢true}
use Rattle.std.specs.declared.io.ErrorKind.{ErrorKind}
use Rattle.std.specs.declared.io.ErrorKind.TheVariants.{WouldBlock}
use Rattle.bx_io_disk.specs.Events.{Event}
use Rattle.bx_io_disk.specs.Files.{is_excluded, is_locked, lock_fault}
use Rattle.bx_io_disk.proofs.Locking.{excluded_fault, locked_any}

-- where no lock is held, the folder was not locked
pub no_lock : {X : Type 0} (alone : Bool) (earlier : List Event) (lock : Option X) → (is_locked false earlier ≡ true → IsSome lock) → is_some lock ≡ false → is_locked alone earlier ≡ true → ⊥
no_lock true earlier lock kept none is = false≢true (sym none ∙ kept (locked_any false earlier is))
no_lock false earlier lock kept none is = false≢true (sym none ∙ kept is)

locked_fault : (alone : Bool) (kind : ErrorKind) (earlier : List Event) → is_locked alone ((lock_fault kind, [], []) ∷ earlier) ≡ is_locked alone earlier
locked_fault alone WouldBlock earlier = refl
locked_fault alone _ earlier = refl

-- a wish that failed locks nothing
pub locked_before : (alone : Bool) (kind : ErrorKind) (earlier now : List Event) → now ≡ (lock_fault kind, [], []) ∷ earlier → is_locked alone now ≡ true → is_locked alone earlier ≡ true
locked_before alone kind earlier now is locked = sym (locked_fault alone kind earlier) ∙ sym (ap (is_locked alone) is) ∙ locked

refused_either : (kind : ErrorKind) (earlier : List Event) (refused : Option ErrorKind) → (kind ≡ WouldBlock → refused ≡ Some WouldBlock) → (is_excluded earlier ≡ true → refused ≡ Some WouldBlock)
    → (kind ≡ WouldBlock) ⊎ (is_excluded earlier ≡ true) → refused ≡ Some WouldBlock
refused_either kind earlier refused now_so before (inl is) = now_so is
refused_either kind earlier refused now_so before (inr is) = before is

-- where another one excluded the handle, its wish was refused
pub refused_after : (kind : ErrorKind) (earlier now : List Event) (refused : Option ErrorKind) → now ≡ (lock_fault kind, [], []) ∷ earlier → (kind ≡ WouldBlock → refused ≡ Some WouldBlock)
    → (is_excluded earlier ≡ true → refused ≡ Some WouldBlock) → is_excluded now ≡ true → refused ≡ Some WouldBlock
refused_after kind earlier now refused is now_so before excluded =
    refused_either kind earlier refused now_so before (excluded_fault kind earlier (sym (ap is_excluded is) ∙ excluded))

-- where no wish was refused, nobody excluded the handle
pub not_refused : (earlier : List Event) (refused : Option ErrorKind) → (is_excluded earlier ≡ true → refused ≡ Some WouldBlock) → is_some refused ≡ false → is_excluded earlier ≡ true → ⊥
not_refused earlier refused excluded none is = false≢true (sym none ∙ ap is_some (excluded is))
