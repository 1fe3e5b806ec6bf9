use Rattle.tool_text.proofs.Counts.{not_one}
use Rattle.tool_text.proofs.instr.lone.Goals as goal

pub returns-then-texts-ne1 : goal.returns-then-texts-ne1
returns-then-texts-ne1 c = not_one c.args.texts.now c.if-texts-ne1.true
