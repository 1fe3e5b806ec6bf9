use Rattle.std.proofs.Common.{◌+◌, ◌*◌, ◌-◌, length}
use Rattle.dscript_sdk_members.proofs.PeriodSteps.{Builds}
use Rattle.dscript_sdk_members.proofs.finding.periods_of.Given as goal

abbrev pub invariant-bytes : goal.invariant-bytes
invariant-bytes l = Builds l.text l.place l.known l.periods.items

abbrev pub decreases-bytes : goal.decreases-bytes
decreases-bytes l = 2 * length l.text - (l.place + (l.place + l.known))
