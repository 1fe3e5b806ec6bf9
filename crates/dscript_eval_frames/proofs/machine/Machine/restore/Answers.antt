use Rattle.std.proofs.Common.{ap}
use Rattle.dscript_eval_frames.specs.Frames.{frame_of}
use Rattle.dscript_eval_frames.specs.declared.frame.Frame.{Frame}
use Rattle.dscript_eval_frames.specs.Views.{seen}
use Rattle.dscript_eval_frames.proofs.machine.Machine.restore.Goals as goal

pub returns : goal.returns
returns c =
    let v = seen c.args.self.now in
    ap (λ (f : Frame). record v { state = record v.state { frame = frame_of f } }) c.replace.ensures.after
