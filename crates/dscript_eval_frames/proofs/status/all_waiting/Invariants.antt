use Rattle.std.proofs.Common.{◌≡◌, ◌++◌, drop}
use Rattle.dscript_eval_frames.specs.Statuses.{statuses}
use Rattle.dscript_eval_frames.proofs.Waiting.{places}
use Rattle.dscript_eval_frames.proofs.status.all_waiting.Given as goal

abbrev pub invariant-files : goal.invariant-files
invariant-files l = statuses l.rows.items ++ places (drop l.file-index l.files) ≡ places l.files
