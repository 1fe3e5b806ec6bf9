use Rattle.std.proofs.Common.{◌≡◌, length}
use Rattle.observed.specs.Texts.{after_prefix}
use Rattle.tool_run.proofs.values.after_prefix.Given as goal

abbrev pub invariant-bytes : goal.invariant-bytes
invariant-bytes l = after_prefix l.left l.rest ≡ after_prefix l.fn.prefix l.fn.text

abbrev pub decreases-bytes : goal.decreases-bytes
decreases-bytes l = length l.left
