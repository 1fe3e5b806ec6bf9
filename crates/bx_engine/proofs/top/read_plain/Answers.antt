use Rattle.std.proofs.Common.{◌∙◌, ap, sym, true≢false}
use Rattle.std.proofs.lemmas.Result.{err_from_is_err_and}
use Rattle.bx_engine_words.specs.Words.{asks_graphs}
use Rattle.bx_engine.proofs.top.read_plain.Goals as goal

pub returns-in_err-order : goal.returns-in_err-order
returns-in_err-order c =
    let p = err_from_is_err_and c.from_residual.result c.from_residual.ensures.1 in
    rw p.1 (λ order is. c.in_err-order.ensures order is.0)

pub returns-then-asks_graphs : goal.returns-then-asks_graphs
returns-then-asks_graphs c order is =
    true≢false
    (sym (sym c.asks_graphs.ensures ∙ c.if-asks_graphs.true)
    ∙ ap asks_graphs (c.one_order.ensures _ c.in_ok-order.order order c.in_ok-order.ensures is.0) ∙ is.1)

pub returns : goal.returns
returns c = (c.in_ok-order.ensures, sym c.asks_graphs.ensures ∙ c.if-asks_graphs.false)
