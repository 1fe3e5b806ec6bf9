use Rattle.std.proofs.Common.{◌∷◌}
use Rattle.dscript_eval_frames.specs.Views.{seen}
use Rattle.dscript_eval_frames.proofs.Machines.{pushed_two_more}
use Rattle.dscript_eval_frames.proofs.machine.Machine.push_three.Goals as goal

pub returns-in-Ok : goal.returns-in-Ok
returns-in-Ok c =
    pushed_two_more c.push_two.result (seen c.args.self.now) (seen c.push.new.self) (seen c.push_two.new.self) c.args.first
    c.args.second (c.args.third ∷ (seen c.args.self.now).work) c.in-Ok.ensures c.push_two.ensures

pub returns-in-Err : goal.returns-in-Err
returns-in-Err c = c.in-Err.ensures
