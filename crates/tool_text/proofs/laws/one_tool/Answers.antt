use Rattle.tool_text.proofs.OneTool.{only, read}
use Rattle.tool_text.proofs.laws.one_tool.Goals as goal

pub returns-clause-read : goal.returns-clause-read
returns-clause-read c = read

pub returns-clause-only : goal.returns-clause-only
returns-clause-only c = only
