use Rattle.std.proofs.Common.{◌≡◌, take}
use Rattle.prints.specs.ReadWeak.{digests_of}
use Rattle.prints.proofs.weak_reading.digests.Given as goal

abbrev pub invariant-lines : goal.invariant-lines
invariant-lines l = l.digests.items ≡ digests_of (take l.line-index l.lines)
