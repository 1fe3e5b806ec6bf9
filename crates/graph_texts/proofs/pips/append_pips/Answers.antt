use Rattle.std.proofs.Common.{◌++◌, List, ℕ, ap, ◌∙◌}
use Rattle.graph_texts.specs.Pips.{pips_text}
use Rattle.graph_texts.proofs.PipTexts.{each_pip, rows_of_pips}
use Rattle.graph_texts.proofs.pips.append_pips.Goals as goal

pub returns-clause-text : goal.returns-clause-text
returns-clause-text c =
    c.in_ok-append_lines.ensures.text
    ∙ ap (λ (t : List ℕ). c.args.text.now.items ++ t) (rows_of_pips c.pips-list.result.now ∙ ap pips_text c.pips-list.ensures.pips)

pub returns-clause-pips : goal.returns-clause-pips
returns-clause-pips c =
    each_pip c.args.pips.now c.pips-list.result.now c.pips-list.ensures.pips c.pips-list.ensures.list c.in_ok-append_lines.ensures.fit
    c.have_orders.ensures
