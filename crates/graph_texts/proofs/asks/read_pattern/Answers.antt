use Rattle.graph_texts.proofs.PatternsTaken.{pattern_refused, pattern_taken}
use Rattle.graph_texts.proofs.asks.read_pattern.Goals as goal

pub returns-in-Some : goal.returns-in-Some
returns-in-Some c =
    let found = rw c.in-Some.is at c.in_ok-pattern.ensures in
    pattern_taken c.args.cursor.now c.in_ok-text.text.now c.part.new.self c.in-Some.pattern c.in_ok-text.ensures found.0 found.1

pub returns-in-None : goal.returns-in-None
returns-in-None c =
    pattern_refused c.args.cursor.now c.in_ok-text.text.now c.part.new.self c.in_ok-text.ensures
    (rw c.in-None.is at c.in_ok-pattern.ensures)
