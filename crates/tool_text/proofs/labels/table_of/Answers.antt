use Rattle.std.proofs.Common.{◌∙◌, ap, sym, ℕ, List, [], Bor, Err, arith}
use Rattle.std.proofs.lemmas.Result.{err_from_is_err_and}
use Rattle.bx_tree.specs.TextTables.{at_text}
use Rattle.tool_text.proofs.Labelled.{one_line, line_twice}
use Rattle.tool_text.proofs.labels.table_of.Goals as goal

abbrev no_text : Bor (List ℕ)
no_text = record { ref_ptr = (0, 0); now = [] }

pub lines-preserved : goal.lines-preserved
lines-preserved c =
    let next = one_line c.args.lines.now c.lines.place no_text (at_text c.lines.by_label) (at_text c.add_label.new.by_label) (omega arith)
    c.lines.invariant.distinct c.lines.invariant.places c.in_ok-add_label.ensures.free c.in_ok-add_label.ensures.added in
    record { distinct = next.distinct; places = next.known }

pub returns-in_err-add_label : goal.returns-in_err-add_label
returns-in_err-add_label c =
    let p = err_from_is_err_and c.from_residual.result c.from_residual.ensures.1 in
    rw (p.1)
    (λ bad. line_twice c.args.lines.now c.lines.place no_text (at_text c.lines.by_label) (omega arith) c.lines.invariant.places
    (c.in_err-add_label.ensures.taken (ap Err (sym p.2 ∙ bad))))
