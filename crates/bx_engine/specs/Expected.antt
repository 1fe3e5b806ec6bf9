-- What a whole call comes to: its status, and what it writes to `out`.
use Rattle.std.specs.Prelude.{◌≡◌, ℕ, false, List, ◌⊎◌}
use Rattle.bx_engine_front.specs.declared.limits.Limits.{Limits}
use Rattle.bx_io.specs.Causes.{Rose}
use Rattle.bx_engine_words.specs.declared.order.Order.{Order}
use Rattle.bx_engine_words.specs.declared.order.Order.TheVariants.{Build, Check, Gen, Repair, Trim}
use Rattle.bx_engine.specs.declared.status.Status.{Status}
use Rattle.bx_engine.specs.Ending.{Ending, status_of, output_of}
use Rattle.bx_engine.specs.Ends.{Ends}
use Rattle.bx_engine.specs.Known.{Appends, AppendsPrefix}

-- A build of this input has this status and writes these bytes to `out`. That is what the sequential build
-- without a cache does.
pub record IsExpected (limits : Limits) (input : List ℕ) (status : Status) (bytes : List ℕ) : Type 0 where
  pub ending : Ending
  pub ends : Ends limits input ending
  pub status_is : status ≡ status_of ending
  pub bytes_are : bytes ≡ output_of ending

-- no steps, where nothing is built
abbrev pub no_steps : Limits
no_steps = record { eval_budget = 0; tool_budget = 0; types = false }

-- the steps that an order allows a build, and whether it asks for its types; nothing else of it changes what is built
abbrev pub limits_of : Order → Limits
limits_of (Build workers cached eval_budget tool_budget types graphs) = record {
  eval_budget = eval_budget;
  tool_budget = tool_budget;
  types = types;
}
limits_of Check = no_steps
limits_of Repair = no_steps
limits_of (Trim keep) = no_steps
limits_of (Gen seed pips) = no_steps

-- What a build of an order comes to on this input.
abbrev pub Expected : Order → List ℕ → Status → List ℕ → Type 0
Expected order input status bytes = IsExpected (limits_of order) input status bytes

-- ## What was written

-- the expected bytes were appended, with their status
pub record Answers (order : Order) (input : List ℕ) (status : Status) (before now : List ℕ)
    : Type 0 where
  pub bytes : List ℕ
  pub expected : Expected order input status bytes
  pub appended : Appends before now bytes

-- a prefix of the expected bytes was appended
pub record Begins (order : Order) (input : List ℕ) (before now : List ℕ) : Type 0 where
  pub status : Status
  pub bytes : List ℕ
  pub expected : Expected order input status bytes
  pub appended : AppendsPrefix before now bytes

-- the text was appended, or a prefix of it and the sink's count of faults rose
abbrev pub AppendsOrFails : List ℕ → List ℕ → List ℕ → ℕ → ℕ → Type 0
AppendsOrFails text before now faults_before faults_now =
    Appends before now text ⊎ (AppendsPrefix before now text × Rose faults_before faults_now)
