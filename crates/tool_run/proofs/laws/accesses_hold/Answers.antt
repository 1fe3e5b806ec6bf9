use Rattle.tool_run.proofs.Accesses.{holds}
use Rattle.tool_run.proofs.laws.accesses_hold.Goals as goal

pub returns : goal.returns
returns c = holds
