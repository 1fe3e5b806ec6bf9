use Rattle.std.proofs.Common.{length}
use Rattle.prints.specs.Lines.{lines_at}
use Rattle.prints.proofs.LineLists.{IsUnderWay}
use Rattle.prints.proofs.line.read_lines.Given as goal

abbrev pub invariant-lines : goal.invariant-lines
invariant-lines g l =
    IsUnderWay g.L.Line.starts g.L.Line.line_at l.lines.items l.cursor (lines_at g.L.Line.starts g.L.Line.line_at l.fn.cursor)

abbrev pub decreases-lines : goal.decreases-lines
decreases-lines g l = length l.cursor
