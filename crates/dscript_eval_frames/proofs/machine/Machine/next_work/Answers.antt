use Rattle.std.proofs.Common.{arith, vec_len}
use Rattle.dscript_eval_frames.specs.Views.{seen}
use Rattle.dscript_eval_frames.proofs.Machines.{popped}
use Rattle.dscript_eval_frames.proofs.machine.Machine.next_work.Goals as goal

pub returns : goal.returns
returns c =
    popped c.pop.result c.args.self.now.work.items c.pop.new.self.items (vec_len c.args.self.now.work)
    (vec_len c.pop.new.self) (seen c.args.self.now) c.pop.ensures.items (omega (arith, c.args.self.now.work.ok.0))
    c.pop.ensures.cases
