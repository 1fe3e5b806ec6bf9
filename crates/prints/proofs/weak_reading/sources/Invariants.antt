use Rattle.std.proofs.Common.{◌≡◌, take}
use Rattle.prints.specs.ReadWeak.{sources_of}
use Rattle.prints.proofs.weak_reading.sources.Given as goal

abbrev pub invariant-lines : goal.invariant-lines
invariant-lines l = l.files.items ≡ sources_of (take l.line-index l.lines)
