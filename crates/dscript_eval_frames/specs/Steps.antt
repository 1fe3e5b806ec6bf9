-- Steps that are spent.
use Rattle.std.specs.Prelude.{◌≡◌, ℕ, None, Ok, Err}
use Rattle.dscript_eval_meaning.specs.Evaluating.{Fault, spend}
use Rattle.dscript_eval_meaning.specs.declared.fault.EvalKind.TheVariants as kinds
use Rattle.dscript_eval_frames.specs.Views.{View}
use Rattle.dscript_eval_frames.specs.declared.stop.Stop.{Stop}
use Rattle.dscript_eval_frames.specs.declared.stop.Stop.TheVariants as stops

-- steps were spent, and nothing else changed
pub record Spent (n : ℕ) (v w : View) : Type 0 where
  pub state : spend n v.state ≡ Ok (tt, w.state)
  pub others : w ≡ record v { state = w.state }

-- too few were left
pub record Unspent (n : ℕ) (v : View) (stop : Stop) : Type 0 where
  pub state : spend n v.state ≡ Err (Fault kinds.Budget v.state.frame.file None)
  pub fault : stop ≡ stops.Fault kinds.Budget v.state.frame.file None
