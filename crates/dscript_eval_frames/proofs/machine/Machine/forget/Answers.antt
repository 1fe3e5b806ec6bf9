use Rattle.std.proofs.Common.{ap, sym}
use Rattle.dscript_eval_frames.specs.Works.{comes}
use Rattle.dscript_eval_frames.proofs.machine.Machine.forget.Goals as goal

pub returns : goal.returns
returns c = ap comes (sym c.give_undefined.ensures)
