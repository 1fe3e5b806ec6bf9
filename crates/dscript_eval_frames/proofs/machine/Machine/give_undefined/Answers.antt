use Rattle.std.proofs.Common.{ap, ◌∙◌}
use Rattle.dscript_value.specs.Plain.{Plain}
use Rattle.dscript_sdk_values.proofs.Views.{plain-Undefined}
use Rattle.dscript_eval_frames.specs.Views.{seen}
use Rattle.dscript_eval_frames.proofs.machine.Machine.give_undefined.Goals as goal

pub returns : goal.returns
returns c =
    c.give.ensures ∙ ap (λ (x : Plain). record (seen c.args.self.now) { given = x }) plain-Undefined
