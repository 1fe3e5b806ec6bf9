use Rattle.std.proofs.Common.{◌≡◌, length}
use Rattle.tool_text.specs.Reading.{skip_blanks}
use Rattle.tool_text.proofs.lines.skip_blanks.Given as goal

abbrev pub invariant-blanks : goal.invariant-blanks
invariant-blanks l = skip_blanks l.rest ≡ skip_blanks l.fn.text

abbrev pub decreases-blanks : goal.decreases-blanks
decreases-blanks l = length l.rest
