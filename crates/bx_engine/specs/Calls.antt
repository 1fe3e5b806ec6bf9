-- What was seen of a call of the engine.
use Rattle.std.specs.Prelude.{ℕ, Bool, List, Option, Some, None}
pub use Rattle.bx_engine_front.specs.StoreChanges.{StoreChange, change_of}
use Rattle.bx_engine.specs.declared.status.Status.{Status}

-- the bytes that a source gave and those that it told to be left, before a call and after it, whether the end was what
-- it answered last, and its count of faults
pub record Given : Type 0 where
  pub before : List ℕ
  pub now : List ℕ
  pub left_before : Option (List ℕ)
  pub left_now : Option (List ℕ)
  pub ended : Bool
  pub faults_before : ℕ
  pub faults_now : ℕ

abbrev pub given_of : List ℕ → List ℕ → Option (List ℕ) → Option (List ℕ) → Bool → ℕ → ℕ → Given
given_of before now left_before left_now ended faults_before faults_now = record {
  before = before;
  now = now;
  left_before = left_before;
  left_now = left_now;
  ended = ended;
  faults_before = faults_before;
  faults_now = faults_now;
}

-- the bytes that a sink took and its count of faults, before a call and after it
pub record Written : Type 0 where
  pub before : List ℕ
  pub now : List ℕ
  pub faults_before : ℕ
  pub faults_now : ℕ

abbrev pub written_of : List ℕ → List ℕ → ℕ → ℕ → Written
written_of before now faults_before faults_now = record {
  before = before;
  now = now;
  faults_before = faults_before;
  faults_now = faults_now;
}

-- A call: its status, what its source gave, what was written to the output and to the notes, the store, and the store of
-- graphs, where it was given one.
pub record Call : Type 0 where
  pub status : Status
  pub source : Given
  pub out : Written
  pub notes : Written
  pub store : StoreChange
  pub graphs : Option StoreChange

abbrev pub call_of : Status → Given → Written → Written → StoreChange → Call
call_of status source out notes store = record {
  status = status;
  source = source;
  out = out;
  notes = notes;
  store = store;
  graphs = None;
}

abbrev pub graph_call_of : Status → Given → Written → Written → StoreChange → StoreChange → Call
graph_call_of status source out notes store graphs = record {
  status = status;
  source = source;
  out = out;
  notes = notes;
  store = store;
  graphs = Some graphs;
}
