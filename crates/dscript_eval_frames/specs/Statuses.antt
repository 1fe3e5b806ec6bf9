-- What contracts see of the table of constants.
use Rattle.std.specs.Prelude.{List, map}
use Rattle.std.specs.declared.alloc.Global.{Global}
use Rattle.std.specs.declared.vec.Vec.{Vec}
use Rattle.dscript_value.specs.Plain.{plain_of}
use Rattle.dscript_eval_meaning.specs.Constants.{Table}
use Rattle.dscript_eval_meaning.specs.States as meaning
use Rattle.dscript_eval_frames.specs.declared.status.Status.{Status}
use Rattle.dscript_eval_frames.specs.declared.status.Status.TheVariants as variants

abbrev pub status_of : Status → meaning.Status
status_of variants.Waiting = meaning.Waiting
status_of variants.Running = meaning.Running
status_of (variants.Done x) = meaning.Done (plain_of x)

abbrev pub statuses : List (Vec Status Global) → Table
statuses rows = map (λ (row : Vec Status Global). map status_of row.items) rows
