use Rattle.std.proofs.Common.{◌≡◌, take}
use Rattle.prints.specs.ReadWeak.{dirs_from}
use Rattle.prints.proofs.weak_reading.numbered.Given as goal

abbrev pub invariant-lines : goal.invariant-lines
invariant-lines l = l.dirs.items ≡ dirs_from 0 (take l.line-index l.lines)
