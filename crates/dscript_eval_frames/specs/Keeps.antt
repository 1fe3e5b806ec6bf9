-- What a move of the machine keeps.
use Rattle.std.specs.Prelude.{◌≡◌, Result, Ok, Err}
use Rattle.dscript_value.specs.Plain.{Plain}
use Rattle.dscript_eval_meaning.specs.Evaluating.{Fault, Gives}
use Rattle.dscript_eval_meaning.specs.Statements.{Way}
use Rattle.dscript_eval_frames.specs.Views.{View, seen}
use Rattle.dscript_eval_frames.specs.Works.{Answer, comes, comes_by, comes_with, goes_by}
use Rattle.dscript_eval_frames.specs.declared.machine.Machine.{Machine}
use Rattle.dscript_eval_frames.specs.declared.stop.Stop.{Stop}
use Rattle.dscript_eval_frames.specs.declared.stop.Stop.TheVariants as stops
use Rattle.dscript_eval_frames.specs.declared.work.Work.{Work}

-- the answer is this stop; want of memory says nothing
abbrev pub StopsWith : Stop → Answer → Type 0
StopsWith (stops.Fault kind file message) answer = answer ≡ Err (Fault kind file message)
StopsWith stops.Memory answer = Unit {0}

-- what was to come still comes
abbrev pub PreservesAnswer : Result (Unit {0}) Stop → Answer → View → Type 0
PreservesAnswer (Ok done) before v = before ≡ comes v
PreservesAnswer (Err stop) before v = StopsWith stop before

-- ## What the calls of the machine ensure, by the machine before and after

-- after the call there comes what came, before it, of the value that this meaning gives
abbrev pub Comes : Result (Unit {0}) Stop → Machine → Machine → (View → Gives Plain) → Type 0
Comes result before now m = PreservesAnswer result (comes_by (m (seen before)) (seen before)) (seen now)

-- after the call there comes what came, before it, of this meaning of a statement, which goes on or returns
abbrev pub Goes : Result (Unit {0}) Stop → Machine → Machine → (View → Gives Way) → Type 0
Goes result before now m = PreservesAnswer result (goes_by (m (seen before)) (seen before)) (seen now)

-- after the call there comes what came, before it, of this work
abbrev pub IsDone : Result (Unit {0}) Stop → Machine → Machine → Work → Type 0
IsDone result before now w = PreservesAnswer result (comes_with w (seen before)) (seen now)
