use Rattle.std.proofs.Common.{◌≡◌, ◌++◌, drop}
use Rattle.tool_text.specs.Tables.{place_in}
use Rattle.tool_faults.specs.Faults.{faults_from}
use Rattle.tool_faults.proofs.judging.add_lines.Given as goal
use Rattle.bx_tree.specs.Lent.{texts_now}

abbrev pub invariant-lines : goal.invariant-lines
invariant-lines l =
    l.found.items ++ faults_from l.measure.second (place_in l.measure.table) l.measure.numbers.items l.place (texts_now (drop l.place l.lines))
    ≡ l.fn.found.items ++ faults_from l.measure.second (place_in l.measure.table) l.measure.numbers.items 0 (texts_now l.lines)
