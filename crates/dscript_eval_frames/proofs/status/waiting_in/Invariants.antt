use Rattle.std.proofs.Common.{◌≡◌, map}
use Rattle.std.proofs.Math.ListN.{replicate}
use Rattle.dscript_eval_meaning.specs.States as meaning
use Rattle.dscript_eval_frames.specs.Statuses.{status_of}
use Rattle.dscript_eval_frames.proofs.status.waiting_in.Given as goal

abbrev pub invariant-decls : goal.invariant-decls
invariant-decls l = map status_of l.row.items ≡ replicate l.counter meaning.Waiting
