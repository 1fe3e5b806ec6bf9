use Rattle.tool_text.proofs.Counts.{not_three}
use Rattle.tool_text.proofs.instr.triple.Goals as goal

pub returns-then-texts-ne3 : goal.returns-then-texts-ne3
returns-then-texts-ne3 c = not_three c.args.texts.now c.if-texts-ne3.true
