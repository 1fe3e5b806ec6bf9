use Rattle.std.proofs.Common.{◌≡◌, length, reverse}
use Rattle.tool_text.specs.Reading.{skip_spaces}
use Rattle.tool_text.proofs.separating.trimmed.Given as goal

abbrev pub invariant-start : goal.invariant-start
invariant-start l = skip_spaces l.rest ≡ skip_spaces l.fn.text

abbrev pub decreases-start : goal.decreases-start
decreases-start l = length l.rest

abbrev pub invariant-end : goal.invariant-end
invariant-end l = reverse (skip_spaces (reverse l.rest)) ≡ reverse (skip_spaces (reverse (skip_spaces l.fn.text)))

abbrev pub decreases-end : goal.decreases-end
decreases-end l = length l.rest
