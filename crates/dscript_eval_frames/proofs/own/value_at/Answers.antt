use Rattle.std.proofs.Common.{sym, ◌∙◌}
use Rattle.dscript_sdk_values.proofs.Views.{plain-Undefined}
use Rattle.dscript_eval_frames.proofs.Locals.{no_value}
use Rattle.dscript_eval_frames.proofs.own.value_at.Goals as goal

pub returns-in-None : goal.returns-in-None
returns-in-None c = plain-Undefined ∙ sym (no_value c.args.values.now c.args.number c.in-None.ensures.lookup.3)
