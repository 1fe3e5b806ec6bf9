use Rattle.dscript_eval_laws.proofs.FullCalls.{all_calls_are_full}
use Rattle.dscript_eval_laws.proofs.laws.calls_hold_what_is_captured.Goals as goal

pub returns : goal.returns
returns c = all_calls_are_full
