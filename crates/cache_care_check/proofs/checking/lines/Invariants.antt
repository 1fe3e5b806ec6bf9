use Rattle.std.proofs.Common.{◌≡◌, map, string_bytes}
use Rattle.cache_care_check.specs.CareLists.{line_remark}
use Rattle.cache_care_check.proofs.Listed.{remarks_to}
use Rattle.cache_care_check.proofs.checking.lines.Given as goal

abbrev pub invariant-names : goal.invariant-names
invariant-names l = map line_remark l.lines.items ≡ remarks_to (map string_bytes l.survey.names.items) l.survey.findings.items l.place
