use Rattle.std.proofs.Common.{◌≡◌, false, map, take}
use Rattle.cache_care_check.specs.CareLists.{has_bad_remark, line_remark}
use Rattle.cache_care_check.proofs.checking.has_bad.Given as goal

abbrev pub invariant-lines : goal.invariant-lines
invariant-lines l = has_bad_remark (map line_remark (take l.line-index l.line-items)) ≡ false
