use Rattle.tool_text.proofs.Counts.{not_four}
use Rattle.tool_text.proofs.instr.quadruple.Goals as goal

pub returns-then-texts-ne4 : goal.returns-then-texts-ne4
returns-then-texts-ne4 c = not_four c.args.texts.now c.if-texts-ne4.true
