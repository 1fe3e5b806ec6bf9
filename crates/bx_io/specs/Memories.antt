-- What contracts see of the objects in memory.
use Rattle.std.specs.Prelude.{ℕ, ◌+◌, Bool, List, refl}
use Rattle.std.specs.Coded.{Coded, code_by, coded×, coded_ℕ, coded_list}
use Rattle.bx_io.specs.Holdings.{Holdings, StoreState}
use Rattle.bx_io.specs.StoreCodes.{holdings_code, state_code, script_code}
use Rattle.bx_io.specs.Numbered.{Script}

-- a source: the bytes that it gave, those that it has left, and whether it answered last that none are
pub record Poured : Type 0 where
  pub given : List ℕ
  pub left : List ℕ
  pub ended : Bool

-- a source that gives at most `chunk` bytes a call, and whose calls fail as its script says
pub record Feed : Type 0 where
  pub given : List ℕ
  pub left : List ℕ
  pub ended : Bool
  pub chunk : ℕ
  pub script : Script

-- a sink: the bytes that it took, at most `chunk` a call and `capacity` in all
pub record Store : Type 0 where
  pub taken : List ℕ
  pub capacity : ℕ
  pub chunk : ℕ
  pub script : Script

-- a store whose calls fail as its script says
pub record Scripted : Type 0 where
  pub kept : StoreState
  pub script : Script

-- a reader whose calls fail as its script says
pub record ScriptedReader : Type 0 where
  pub held : Holdings
  pub script : Script

-- a store whose readers fail at the calls with these numbers
pub record Failing : Type 0 where
  pub inner : Scripted
  pub failing : List ℕ

-- a store with the number of calls left before it stops, and the number of those that it has refused since
pub record Stopping : Type 0 where
  pub inner : Scripted
  pub left : ℕ
  pub refused : ℕ

-- how often a store that stops has failed: as its inner keeper, and in the calls that it refused
abbrev pub faults_in : Stopping → ℕ
faults_in keeper = keeper.inner.script.faults + keeper.refused

abbrev pub scripted_code : Coded Scripted
scripted_code =
    code_by (StoreState × Script) (coded× state_code script_code) (λ k. (k.kept, k.script))
    (λ p. record { kept = p.0; script = p.1 }) (λ _. refl)

abbrev pub scripted_reader_code : Coded ScriptedReader
scripted_reader_code =
    code_by (Holdings × Script) (coded× holdings_code script_code) (λ r. (r.held, r.script))
    (λ p. record { held = p.0; script = p.1 }) (λ _. refl)

abbrev pub failing_code : Coded Failing
failing_code =
    code_by (Scripted × List ℕ) (coded× scripted_code (coded_list coded_ℕ)) (λ k. (k.inner, k.failing))
    (λ p. record { inner = p.0; failing = p.1 }) (λ _. refl)

abbrev pub stopping_code : Coded Stopping
stopping_code =
    code_by (Scripted × (ℕ × ℕ)) (coded× scripted_code (coded× coded_ℕ coded_ℕ))
    (λ k. (k.inner, (k.left, k.refused)))
    (λ p. record { inner = p.0; left = p.1.0; refused = p.1.1 }) (λ _. refl)
