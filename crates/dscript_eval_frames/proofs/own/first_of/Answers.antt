use Rattle.std.proofs.Common.{sym}
use Rattle.std.proofs.lemmas.List.{take-map}
use Rattle.dscript_value.specs.Plain.{plain_of}
use Rattle.dscript_eval_frames.proofs.own.first_of.Goals as goal

pub returns-then-count-values : goal.returns-then-count-values
returns-then-count-values c = sym (take-map plain_of c.args.count c.args.values.now)
