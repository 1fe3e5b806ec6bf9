use Rattle.tool_faults.proofs.WasRead.{was_bad, was_ok}
use Rattle.tool_faults.proofs.operands.was_read.Goals as goal

pub returns-in-Ok : goal.returns-in-Ok
returns-in-Ok g c = was_ok c.args.read.now _ c.in-Ok.is

pub returns-in-Err-BadTool : goal.returns-in-Err-BadTool
returns-in-Err-BadTool g c = was_bad c.args.read.now _ c.in-Err-BadTool.is (rw c.in-Err-BadTool.is at c.in-Err-BadTool.field-0-is)
