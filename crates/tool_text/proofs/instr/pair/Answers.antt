use Rattle.tool_text.proofs.Counts.{not_two}
use Rattle.tool_text.proofs.instr.pair.Goals as goal

pub returns-then-texts-ne2 : goal.returns-then-texts-ne2
returns-then-texts-ne2 c = not_two c.args.texts.now c.if-texts-ne2.true
