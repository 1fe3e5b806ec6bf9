-- Calls of a store, one after another, that change nothing.
use Rattle.std.proofs.Common.{◌≡◌, ℕ, Option, Result, Ok, Err}
use Rattle.bx_io.specs.Holdings.{Keeps, StoreTold}
use Rattle.bx_io.proofs.Changes.{keeps_all, keeps_on}
use Rattle.two_phase.specs.Calls.{KeeperCall}
use Rattle.two_phase.proofs.Used as used
use Rattle.cache_care_check.specs.declared.fault.CareFault.{CareFault}
use Rattle.cache_care_check.specs.declared.fault.CareFault.TheVariants as faults

-- nothing was changed and no call failed
pub record Steps (before now : StoreTold) (b0 b1 : Option ℕ) (f0 f1 : ℕ) : Type 0 where
  pub known : Keeps before now
  pub keeper : KeeperCall b0 b1 f0 f1 ⊥

pub no_step : (known : StoreTold) (bound : Option ℕ) (faults : ℕ) → Steps known known bound bound faults faults
no_step known bound faults = record { known = keeps_all known; keeper = used.keeps_none bound faults ⊥ (λ e. e) }

-- one more call that did not fail
pub one_step : (before between now : StoreTold) (b0 b1 b2 : Option ℕ) (f0 f1 f2 : ℕ) (A : Type 0) → ¬ A → Steps before between b0 b1 f0 f1
    → Keeps between now → KeeperCall b1 b2 f1 f2 A → Steps before now b0 b2 f0 f2
one_step before between now b0 b1 b2 f0 f1 f2 A none steps known call = record {
  known = keeps_on before between now steps.known known;
  keeper = used.keeps_on b0 b1 b2 f0 f1 f2 A none steps.keeper call;
}

same_fault : {Y Z : Type 0} (a b : CareFault) (r : Result Z CareFault) → r ≡ Err a → r ≡ Err b → ◌≡◌ {A = Result Y CareFault} (Err a) (Err b)
same_fault a b r h k = cc

fault_again : {Y Z : Type 0} (a b : CareFault) (r : Result Z CareFault) → r ≡ Err a → ◌≡◌ {A = Result Y CareFault} (Err a) (Err b) → r ≡ Err b
fault_again a b r h k = cc

-- a call that did not fail, and the next one, whose fault is handed on
pub fault_on : {X Y Z : Type 0} (b0 b1 b2 : Option ℕ) (f0 f1 f2 : ℕ) (x : X) (fault : CareFault) (r : Result Z CareFault) → r ≡ Err fault
    → KeeperCall b0 b1 f0 f1 (◌≡◌ {A = Result X CareFault} (Ok x) (Err faults.Failed))
    → KeeperCall b1 b2 f1 f2 (◌≡◌ {A = Result Y CareFault} (Err fault) (Err faults.Failed)) → KeeperCall b0 b2 f0 f2 (r ≡ Err faults.Failed)
fault_on b0 b1 b2 f0 f1 f2 x fault r is first next =
    used.keeps_then b0 b1 b2 f0 f1 f2 _ (r ≡ Err faults.Failed) (used.ok_no_err x faults.Failed) first
    (used.keeps_as b1 b2 f1 f2 _ (r ≡ Err faults.Failed) (same_fault fault faults.Failed r is) (fault_again fault faults.Failed r is) next)
