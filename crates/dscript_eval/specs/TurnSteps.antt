-- A turn of a loop.
use Rattle.std.specs.Prelude.{ℕ, List}
use Rattle.dscript_program.specs.BoundTree.{StmtData}
use Rattle.dscript_program.specs.ProgramData.{ProgramData}
use Rattle.dscript_value.specs.Plain.{Plain}
use Rattle.dscript_eval_meaning.specs.Acts.{Acts}
use Rattle.dscript_eval_meaning.specs.Evaluating.{Gives, spend, ◌>>◌}
use Rattle.dscript_eval_meaning.specs.Statements.{Way}
use Rattle.dscript_eval_frames.specs.Forms.{turn_form}

-- the step of a turn with an item, the turn, and the turns with the others
abbrev pub turn_step_form : ProgramData → Acts → ℕ → StmtData → Plain → List Plain → Gives Way
turn_step_form p act n s x others = spend 1 >> turn_form p act n s x others
