use Rattle.tool_faults.proofs.Exact.{exactly}
use Rattle.tool_faults.proofs.laws.wrong_exactly.Goals as goal

pub returns : goal.returns
returns c = exactly
