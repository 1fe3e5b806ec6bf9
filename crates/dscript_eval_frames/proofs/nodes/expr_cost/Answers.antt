use Rattle.std.proofs.Common.{◌≡◌, length, map, ap, ◌∙◌, arith}
use Rattle.std.proofs.lemmas.List.{length-map}
use Rattle.dscript_program.specs.Views.{expr_data, operand_data}
use Rattle.dscript_program.proofs.NodeViews.{expr_data-Chain}
use Rattle.dscript_eval_frames.specs.Costs as costs
use Rattle.dscript_eval_frames.proofs.Rows.{operator_count_row}
use Rattle.dscript_eval_frames.proofs.nodes.expr_cost.Goals as goal

pub returns-in-Chain : goal.returns-in-Chain
returns-in-Chain c =
    let more = c.in-Chain.more in
    let steps : costs.expr_cost (expr_data c.args.e.now) ≡ length more.items =
    ap costs.expr_cost (ap expr_data c.in-Chain.is ∙ expr_data-Chain c.in-Chain.field-0 more)
    ∙ operator_count_row (map operand_data more.items) ∙ length-map more.items operand_data in
    omega (arith, c.len.ensures, more.ok.0, steps)
