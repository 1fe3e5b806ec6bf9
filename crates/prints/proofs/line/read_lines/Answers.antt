use Rattle.std.proofs.Common.{◌∙◌, sym, arith}
use Rattle.std.proofs.lemmas.Result.{err_from_is_err_and}
use Rattle.prints.specs.Lines.{lines_at}
use Rattle.prints.proofs.LineLists.{all_lines, faulty, goes_on, shorter}
use Rattle.prints.proofs.line.read_lines.Goals as goal

pub returns-in_err-read : goal.returns-in_err-read
returns-in_err-read g c =
    let p = err_from_is_err_and c.from_residual.result c.from_residual.ensures.1 in
    rw (p.1, p.2)
    (faulty g.L.Line.starts g.L.Line.line_at c.lines.lines.items c.lines.cursor (lines_at g.L.Line.starts g.L.Line.line_at c.args.cursor.now) c.read.new.cursor
    c.in_err-read.field-0.0 (sym c.is_next.ensures ∙ c.lines-test.true) c.in_err-read.ensures c.lines.invariant)

pub lines-smaller : goal.lines-smaller
lines-smaller g c =
    let less = shorter g.L.Line.starts g.met.L.Line.form g.met.L.Line.seen g.met.L.Line.none c.lines.cursor (c.in_ok-read.field-0, c.read.new.cursor) c.in_ok-read.ensures in
    omega (arith, less)

pub lines-preserved : goal.lines-preserved
lines-preserved g c =
    let less = shorter g.L.Line.starts g.met.L.Line.form g.met.L.Line.seen g.met.L.Line.none c.lines.cursor (c.in_ok-read.field-0, c.read.new.cursor) c.in_ok-read.ensures in
    goes_on g.L.Line.starts g.L.Line.line_at c.lines.lines.items c.lines.cursor (lines_at g.L.Line.starts g.L.Line.line_at c.args.cursor.now)
    c.push.new.self.items c.in_ok-read.field-0 c.read.new.cursor c.in_ok-push.ensures.items (sym c.is_next.ensures ∙ c.lines-test.true) c.in_ok-read.ensures less c.lines.invariant

pub returns : goal.returns
returns g c =
    all_lines g.L.Line.starts g.L.Line.line_at c.lines.lines.items c.lines.cursor (lines_at g.L.Line.starts g.L.Line.line_at c.args.cursor.now)
    (sym c.is_next.ensures ∙ c.lines-test.false) c.lines.invariant
