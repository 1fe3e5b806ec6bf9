use Rattle.std.proofs.Common.{◌≡◌, take}
use Rattle.cache_care_check.specs.CareLists.{entry_count as count_of}
use Rattle.cache_care_check.proofs.checking.entry_count.Given as goal

abbrev pub invariant-findings : goal.invariant-findings
invariant-findings l = l.count ≡ count_of (take l.finding-index l.findings)
