-- What a store told before a call and after it.
use Rattle.std.specs.Prelude.{ℕ, Option}
use Rattle.bx_io.specs.Holdings.{StoreTold}

-- what a store told, how often its readers may fail, and its count of faults, before a call and after it
pub record StoreChange : Type 0 where
  pub before : StoreTold
  pub now : StoreTold
  pub bound : Option ℕ
  pub faults_before : ℕ
  pub faults_now : ℕ

abbrev pub change_of : StoreTold → StoreTold → Option ℕ → ℕ → ℕ → StoreChange
change_of before now bound faults_before faults_now = record {
  before = before;
  now = now;
  bound = bound;
  faults_before = faults_before;
  faults_now = faults_now;
}
