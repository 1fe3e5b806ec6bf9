use Rattle.std.proofs.Common.{◌≡◌, drop}
use Rattle.tool_text.specs.Reading.{after_lines, lines_of}
use Rattle.tool_text.specs.Tables.{place_in}
use Rattle.tool_text.proofs.reading.tool_in.Given as goal
use Rattle.bx_tree.specs.Lent.{texts_now}

abbrev pub invariant-lines : goal.invariant-lines
invariant-lines l =
    after_lines l.instrs.items (lines_of (place_in l.table) (texts_now (drop l.line-index l.lines))) ≡ lines_of (place_in l.table) (texts_now l.lines)
