use Rattle.std.proofs.Common.{◌≡◌, ◌+◌, ◌++◌, drop}
use Rattle.tool_faults.specs.Faults.{numbers_from}
use Rattle.tool_faults.proofs.numbers.numbers_after.Given as goal
use Rattle.bx_tree.specs.Lent.{texts_now}

abbrev pub invariant-lines : goal.invariant-lines
invariant-lines l = l.numbers.items ++ numbers_from (l.place + 2) (texts_now (drop l.place l.rest)) ≡ numbers_from 2 (texts_now l.rest)
