use Rattle.std.proofs.Common.{◌∙◌, ap, sym, ℕ, List, [], Bor, Some, None, get_or, arith}
use Rattle.std.proofs.lemmas.Result.{err_from_is_err_and}
use Rattle.tool_text.specs.Reading.{line_of, tool_in}
use Rattle.tool_text.specs.Tables.{place_in}
use Rattle.tool_text.proofs.ToolLines.{tool_read, bad_line, all_instrs, err_again}
use Rattle.tool_text.proofs.reading.tool_in.Goals as goal
use Rattle.bx_tree.specs.Lent.{texts_now}

abbrev no_text : Bor (List ℕ)
no_text = record { ref_ptr = (0, 0); now = [] }

pub returns : goal.returns
returns c =
    tool_read c.args.lines.now (place_in c.in_ok-table.table) (Some c.new.result) c.in_ok-table.ensures.0 c.in_ok-table.ensures.1
    (all_instrs c.args.lines.now c.lines.line-index (place_in c.in_ok-table.table) c.lines.instrs.items _ (omega arith) c.lines.invariant ∙ ap Some (sym c.new.ensures))

pub returns-in_err-line_of : goal.returns-in_err-line_of
returns-in_err-line_of c =
    let p = err_from_is_err_and c.from_residual-in_err-line_of.result c.from_residual-in_err-line_of.ensures.1 in
    rw (p.1, p.2)
    (err_again c.in_err-line_of.field-0.0 (line_of (place_in c.in_ok-table.table) (get_or c.args.lines.now c.lines.line-index no_text).now) (tool_in (texts_now c.args.lines.now))
    c.in_err-line_of.ensures
    (λ none. tool_read c.args.lines.now (place_in c.in_ok-table.table) None c.in_ok-table.ensures.0 c.in_ok-table.ensures.1
    (bad_line c.args.lines.now c.lines.line-index no_text (place_in c.in_ok-table.table) c.lines.instrs.items _ (omega arith) none c.lines.invariant)))
