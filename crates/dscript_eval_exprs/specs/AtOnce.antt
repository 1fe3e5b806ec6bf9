-- What the machine is after an expression that is evaluated at once.
use Rattle.std.specs.Prelude.{◌≡◌, Ok}
use Rattle.dscript_program.specs.BoundTree.{ExprData}
use Rattle.dscript_eval_frames.specs.Forms.{value_at}
use Rattle.dscript_eval_frames.specs.Views.{View}

-- the value of an expression is given, in the state after it, and nothing else changed
pub record IsGiven (v w : View) (e : ExprData) : Type 0 where
  pub value : value_at v e v.state ≡ Ok (w.given, w.state)
  pub others : w ≡ record v { given = w.given; state = w.state }
