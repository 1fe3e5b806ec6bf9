use Rattle.std.proofs.Common.{◌≡◌, ◌++◌, drop}
use Rattle.dscript_sdk_pips.specs.WriteAllLines.{text_of_lines}
use Rattle.dscript_sdk_pips.proofs.writing.join_lines.Given as goal

abbrev pub invariant-lines : goal.invariant-lines
invariant-lines l = l.bytes.items ++ text_of_lines (drop l.line-index l.lines) ≡ text_of_lines l.lines
