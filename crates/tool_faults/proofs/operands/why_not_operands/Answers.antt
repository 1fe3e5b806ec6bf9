use Rattle.std.proofs.Common.{◌∙◌, ap, sym}
use Rattle.tool_text.specs.Tables.{place_in}
use Rattle.tool_faults.specs.Faults.{or_no_instruction}
use Rattle.tool_faults.proofs.LinesFrom.{counted, judged}
use Rattle.tool_faults.proofs.operands.why_not_operands.Goals as goal

pub returns-then-not-fits : goal.returns-then-not-fits
returns-then-not-fits c = counted (place_in c.args.table.now) c.args.op c.args.texts.now c.kinds_of-kinds.result.now c.kinds_of-kinds.ensures c.if-not-fits.true

pub returns-in-Some : goal.returns-in-Some
returns-in-Some c =
    ap or_no_instruction (sym c.in-Some.is)
    ∙ judged (place_in c.args.table.now) c.args.op c.args.texts.now c.kinds_of-kinds.result.now c.kinds_of-kinds.ensures c.in_ok-wrong.field-0 c.if-not-fits.false c.in_ok-wrong.ensures

pub returns-in-None : goal.returns-in-None
returns-in-None c =
    ap or_no_instruction (sym c.in-None.is)
    ∙ judged (place_in c.args.table.now) c.args.op c.args.texts.now c.kinds_of-kinds.result.now c.kinds_of-kinds.ensures c.in_ok-wrong.field-0 c.if-not-fits.false c.in_ok-wrong.ensures
