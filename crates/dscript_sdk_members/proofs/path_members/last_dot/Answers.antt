use Rattle.dscript_sdk_members.proofs.LastAtoms.{last_dot_first, last_dot_here, last_dot_of_all, last_dot_on}
use Rattle.dscript_sdk_members.proofs.path_members.last_dot.Goals as goal
use Rattle.dscript_sdk_members.proofs.path_members.last_dot.Goals.{then-byte-eq46, else-byte-eq46}

pub bytes-init : goal.bytes-init
bytes-init c = last_dot_first c.args.bytes.now

pub bytes-preserved : goal.bytes-preserved
bytes-preserved c = elim c.if-byte-eq46.branch [
  | then-byte-eq46 w ↦
      last_dot_here c.args.bytes.now c.bytes.place c.bytes.last _ c.bytes-test.true w.if-byte-eq46.true w.last-is c.bytes.invariant
  | else-byte-eq46 w ↦
      last_dot_on c.args.bytes.now c.bytes.place c.bytes.last _ c.bytes-test.true w.if-byte-eq46.false w.last-is c.bytes.invariant
]

pub returns-clause-before : goal.returns-clause-before
returns-clause-before c = last_dot_of_all c.args.bytes.now c.bytes.place c.bytes.last c.bytes-test.false c.bytes.invariant

pub returns-clause-within : goal.returns-clause-within
returns-clause-within c = c.bytes.invariant.within
