-- What comes of a body that begins.
use Rattle.std.specs.Prelude.{◌-◌}
use Rattle.dscript_program.specs.BoundTree.{BodyData}
use Rattle.dscript_eval_meaning.specs.Frames.{within}
use Rattle.dscript_eval_meaning.specs.Meaning.{acts}
use Rattle.dscript_eval_meaning.specs.States.{Frame}
use Rattle.dscript_eval_meaning.specs.Statements.{body_value}
use Rattle.dscript_eval_frames.specs.Views.{View}
use Rattle.dscript_eval_frames.specs.Works.{Answer, comes_by}

-- the value of a body in a frame of its own, which opens a call
abbrev pub body_comes : BodyData → Frame → View → Answer
body_comes body frame v =
    comes_by (within frame (body_value v.program (acts v.program (v.openable - 1)) body)) v
