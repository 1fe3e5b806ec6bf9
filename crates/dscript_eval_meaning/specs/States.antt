-- What evaluation hands on from one expression to the next.
use Rattle.std.specs.Prelude.{ℕ, List}
use Rattle.dscript_value.specs.Plain.{Plain}
use Rattle.dscript_sdk_pips.specs.States.{State as Calls}

-- a constant: not demanded yet, being evaluated, or evaluated to a value
pub data Status : Type 0 where
  Waiting : Status
  Running : Status
  Done : Plain → Status

-- The running body: the number of its file, the numbers of the locals that it captured and the values that
-- they hold, the number of its first own local, and the values of its own locals in the order of their
-- numbers.
pub record Frame : Type 0 where
  pub file : ℕ
  pub captured : List ℕ
  pub held : List Plain
  pub first : ℕ
  pub own : List Plain

-- The steps that are left, the running body, the constants by file and declaration, and the state of ambient
-- calls: what answers asks of the source tree, the pips, how many output directories were made, and the asks.
pub record State : Type 0 where
  pub left : ℕ
  pub frame : Frame
  pub constants : List (List Status)
  pub calls : Calls
