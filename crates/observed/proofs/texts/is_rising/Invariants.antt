use Rattle.std.proofs.Common.{◌≡◌, length}
use Rattle.observed.specs.Texts.{is_rising as rises}
use Rattle.observed.proofs.texts.is_rising.Given as goal

abbrev pub invariant-asks : goal.invariant-asks
invariant-asks l = rises l.rest ≡ rises l.fn.asks

abbrev pub decreases-asks : goal.decreases-asks
decreases-asks l = length l.rest
