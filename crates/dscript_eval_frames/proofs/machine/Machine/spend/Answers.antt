use Rattle.std.proofs.Common.{arith, refl}
use Rattle.dscript_eval_frames.specs.Views.{seen}
use Rattle.dscript_eval_frames.proofs.Machines.{spent_when, unspent_when}
use Rattle.dscript_eval_frames.proofs.machine.Machine.spend.Goals as goal

pub returns-then-steps-self : goal.returns-then-steps-self
returns-then-steps-self c = unspent_when c.args.steps (seen c.args.self.now) _ (omega arith) c.fault.ensures

pub returns : goal.returns
returns c = spent_when c.args.steps (seen c.args.self.now) _ (omega arith) refl
