use Rattle.std.proofs.lemmas.Result.{err_from_is_err_and}
use Rattle.graph_texts.proofs.EntryRead.{asks_refused, end_refused, entry_found, key_refused, pips_refused, word_refused}
use Rattle.graph_texts.proofs.entry.in_body.Goals as goal

pub returns-in_err-word : goal.returns-in_err-word
returns-in_err-word c =
    let p = err_from_is_err_and c.from_residual.result c.from_residual.ensures.1 in
    rw (p.1, p.2)
    (word_refused c.args.body.now c.of-cursor.result c.of-cursor.ensures c.in_err-word.field-0.0 c.word.new.self c.in_err-word.ensures)

pub returns-in_err-key : goal.returns-in_err-key
returns-in_err-key c =
    let p = err_from_is_err_and c.from_residual-in_err-key.result c.from_residual-in_err-key.ensures.1 in
    rw (p.1, p.2)
    (key_refused c.args.body.now c.of-cursor.result c.of-cursor.ensures c.word.new.self c.in_ok-word.ensures c.in_err-key.field-0.0 c.digest.new.self
    c.in_err-key.ensures)

pub returns-in_err-asks : goal.returns-in_err-asks
returns-in_err-asks c =
    let p = err_from_is_err_and c.from_residual-in_err-asks.result c.from_residual-in_err-asks.ensures.1 in
    rw (p.1, p.2)
    (asks_refused c.args.body.now c.of-cursor.result c.of-cursor.ensures c.word.new.self c.in_ok-word.ensures c.in_ok-key.key c.digest.new.self
    c.in_ok-key.ensures c.in_err-asks.field-0.0 c.read_asks.new.cursor c.in_err-asks.ensures)

pub returns-in_err-pips : goal.returns-in_err-pips
returns-in_err-pips c =
    let p = err_from_is_err_and c.from_residual-in_err-pips.result c.from_residual-in_err-pips.ensures.1 in
    rw (p.1, p.2)
    (pips_refused c.args.body.now c.of-cursor.result c.of-cursor.ensures c.word.new.self c.in_ok-word.ensures c.in_ok-key.key c.digest.new.self
    c.in_ok-key.ensures c.in_ok-asks.asks c.read_asks.new.cursor c.in_ok-asks.ensures c.in_err-pips.field-0.0 c.read_pips.new.cursor
    c.in_err-pips.ensures)

pub returns-in_err-end : goal.returns-in_err-end
returns-in_err-end c =
    let p = err_from_is_err_and c.from_residual-in_err-end.result c.from_residual-in_err-end.ensures.1 in
    rw (p.1, p.2)
    (end_refused c.args.body.now c.of-cursor.result c.of-cursor.ensures c.word.new.self c.in_ok-word.ensures c.in_ok-key.key c.digest.new.self
    c.in_ok-key.ensures c.in_ok-asks.asks c.read_asks.new.cursor c.in_ok-asks.ensures c.in_err-end.field-0.0 c.in_ok-pips.pips
    c.read_pips.new.cursor c.in_ok-pips.ensures c.in_err-end.ensures)

pub returns : goal.returns
returns c =
    entry_found c.args.body.now c.of-cursor.result c.word.new.self c.digest.new.self c.read_asks.new.cursor c.read_pips.new.cursor
    (record { key = c.in_ok-key.key; asks = c.in_ok-asks.asks; pips = c.in_ok-pips.pips }) c.of-cursor.ensures c.in_ok-word.ensures
    c.in_ok-key.ensures c.in_ok-asks.ensures c.in_ok-pips.ensures c.in_ok-end.ensures
