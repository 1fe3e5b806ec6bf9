use Rattle.std.proofs.Common.{◌≡◌, ◌++◌, flat_map, take}
use Rattle.bx_engine.specs.Care.{care_line}
use Rattle.bx_engine.proofs.care.add_lines.Given as goal

abbrev pub invariant-lines : goal.invariant-lines
invariant-lines l = l.text.items ≡ l.fn.text.items ++ flat_map care_line (take l.line-index l.lines)
