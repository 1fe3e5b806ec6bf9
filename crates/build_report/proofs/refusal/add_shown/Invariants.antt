use Rattle.std.proofs.Common.{◌≡◌, ◌++◌, take}
use Rattle.build_report.specs.Refusals.{shown_bytes}
use Rattle.build_report.proofs.refusal.add_shown.Given as goal

abbrev pub invariant-bytes : goal.invariant-bytes
invariant-bytes l = l.text.items ≡ l.initial.text.items ++ shown_bytes (take l.byte-index l.bytes)
