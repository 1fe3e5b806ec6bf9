use Rattle.dscript_sdk_members.proofs.LastAtoms.{IsLastDot}
use Rattle.dscript_sdk_members.proofs.path_members.last_dot.Given as goal

abbrev pub invariant-bytes : goal.invariant-bytes
invariant-bytes l = IsLastDot l.bytes l.place l.last
