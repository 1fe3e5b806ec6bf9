-- What follows of a record from what was noted.
use Rattle.std.proofs.Common.{◌≡◌, ℕ, List, arith, Some, refl, Bool, true, false, [], ◌∷◌, ◌≤◌}
use Rattle.bx_io.specs.Causes.{HasCause, counted, last_count}
use Rattle.bx_io_disk.specs.Events.{Event, failures, failures_next, keep_if}
use Rattle.bx_io_disk.specs.declared.kind.Kind.{Kind}
use Rattle.bx_io_disk.specs.declared.kind.Kind.TheVariants as kinds

pub keep_if_some : {X : Type 0} (b : Bool) (x y : X) → keep_if b x ≡ Some y → (b ≡ true) × (x ≡ y)
keep_if_some true x y h = (refl, cc)
keep_if_some false x y h = absurd (cc)

-- ## Faults

counted_most : (n : ℕ) → counted n ≤ last_count
counted_most n = omega arith

failures_next_most : (kind : Kind) (n : ℕ) → n ≤ last_count → failures_next kind n ≤ last_count
failures_next_most kinds.Failed n most = counted_most n
failures_next_most kinds.Started n most = omega arith
failures_next_most _ n most = most

pub failures_most : (events : List Event) → failures events ≤ last_count
failures_most [] = omega arith
failures_most (e ∷ earlier) = failures_next_most e.0 (failures earlier) (failures_most earlier)

-- one more failure
pub failure_noted : (answer : Type 0) (events : List Event) → HasCause (failures events) (failures ((kinds.Failed, [], []) ∷ events)) answer
failure_noted answer events = let most = failures_most events in record { later = omega (arith, most); rose = λ _. omega arith }
