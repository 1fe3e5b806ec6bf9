use Rattle.std.proofs.Common.{ap, ◌∙◌}
use Rattle.dscript_value.specs.Plain.{Plain, plain_of}
use Rattle.dscript_value.specs.declared.value.Value.{Value}
use Rattle.dscript_sdk_values.proofs.Views.{plain-Undefined}
use Rattle.dscript_eval_frames.specs.Views.{seen}
use Rattle.dscript_eval_frames.proofs.machine.Machine.take.Goals as goal

pub returns-clause-value : goal.returns-clause-value
returns-clause-value c = ap plain_of c.replace.ensures.value

pub returns-clause-taken : goal.returns-clause-taken
returns-clause-taken c =
    ap (λ (x : Value). record (seen c.args.self.now) { given = plain_of x }) c.replace.ensures.after
    ∙ ap (λ (x : Plain). record (seen c.args.self.now) { given = x }) plain-Undefined
