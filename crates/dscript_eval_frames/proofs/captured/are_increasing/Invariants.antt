use Rattle.std.proofs.Common.{◌≡◌, drop}
use Rattle.dscript_eval_frames.specs.Increasing.{is_increasing, rises}
use Rattle.dscript_eval_frames.proofs.captured.are_increasing.Given as goal

abbrev pub invariant-locals : goal.invariant-locals
invariant-locals l = rises l.least (drop l.local-index l.locals) ≡ is_increasing l.locals
