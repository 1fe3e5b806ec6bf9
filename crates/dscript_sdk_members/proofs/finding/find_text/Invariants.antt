use Rattle.std.proofs.Common.{◌+◌, ◌*◌, ◌-◌, length}
use Rattle.dscript_sdk_members.proofs.FindingSteps.{Reaches}
use Rattle.dscript_sdk_members.proofs.finding.find_text.Given as goal

abbrev pub invariant-places : goal.invariant-places
invariant-places l = Reaches l.text l.other l.place l.known

abbrev pub decreases-places : goal.decreases-places
decreases-places l = 2 * length l.text - (l.place + (l.place + l.known))
