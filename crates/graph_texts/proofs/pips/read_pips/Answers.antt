use Rattle.std.proofs.lemmas.Result.{err_from_is_err_and}
use Rattle.graph_texts.specs.Pips.{rows_at}
use Rattle.graph_texts.proofs.PipTexts.{pips_taken, rows_form, rows_refused}
use Rattle.graph_texts.proofs.pips.read_pips.Goals as goal

pub link-requires : goal.link-requires
link-requires c = rows_form.good c.args.cursor.now (c.in_ok-rows.rows.items, c.read_rows.new.cursor) c.in_ok-rows.ensures

pub returns-in_err-rows : goal.returns-in_err-rows
returns-in_err-rows c =
    let p = err_from_is_err_and c.from_residual.result c.from_residual.ensures.1 in
    rw (p.1, p.2) (rows_refused c.in_err-rows.field-0.0 c.read_rows.new.cursor (rows_at c.args.cursor.now) c.in_err-rows.ensures)

pub returns : goal.returns
returns c =
    pips_taken c.link.result c.in_ok-rows.rows.items c.read_rows.new.cursor (rows_at c.args.cursor.now) c.in_ok-rows.ensures c.link.ensures
