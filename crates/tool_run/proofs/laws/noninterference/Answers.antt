use Rattle.tool_run.proofs.Depends.{depends}
use Rattle.tool_run.proofs.laws.noninterference.Goals as goal

pub returns : goal.returns
returns c = depends
