use Rattle.std.proofs.Common.{◌∷◌}
use Rattle.dscript_eval_frames.specs.Views.{seen}
use Rattle.dscript_eval_frames.proofs.Machines.{pushed_more}
use Rattle.dscript_eval_frames.proofs.machine.Machine.push_two.Goals as goal

pub returns-in-Ok : goal.returns-in-Ok
returns-in-Ok c =
    pushed_more c.push-in-Ok.result (seen c.args.self.now) (seen c.push.new.self) (seen c.push-in-Ok.new.self) c.args.first
    (c.args.second ∷ (seen c.args.self.now).work) c.in-Ok.ensures c.push-in-Ok.ensures

pub returns-in-Err : goal.returns-in-Err
returns-in-Err c = c.in-Err.ensures
