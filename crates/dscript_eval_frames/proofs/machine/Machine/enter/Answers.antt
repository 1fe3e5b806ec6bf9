use Rattle.std.proofs.Common.{◌-◌, ap}
use Rattle.dscript_eval_frames.specs.Frames.{frame_of}
use Rattle.dscript_eval_frames.specs.declared.frame.Frame.{Frame}
use Rattle.dscript_eval_frames.specs.Views.{seen}
use Rattle.dscript_eval_frames.proofs.machine.Machine.enter.Goals as goal

pub returns-clause-before : goal.returns-clause-before
returns-clause-before c = ap frame_of c.replace.ensures.value

pub returns-clause-entered : goal.returns-clause-entered
returns-clause-entered c =
    let v = seen c.args.self.now in
    ap (λ (f : Frame). record v { openable = v.openable - 1; state = record v.state { frame = frame_of f } })
    c.replace.ensures.after
