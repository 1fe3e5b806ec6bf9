use Rattle.std.proofs.Common.{ap}
use Rattle.dscript_value.specs.Plain.{plain_of}
use Rattle.dscript_value.specs.declared.value.Value.{Value}
use Rattle.dscript_eval_frames.specs.Views.{seen}
use Rattle.dscript_eval_frames.proofs.machine.Machine.give.Goals as goal

pub returns : goal.returns
returns c = ap (λ (x : Value). record (seen c.args.self.now) { given = plain_of x }) c.replace.ensures.after
