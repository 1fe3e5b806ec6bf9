use Rattle.one_thread.proofs.LeastPaths.{least_missing}
use Rattle.one_thread.proofs.least.least_missing_output.Goals as goal

pub returns : goal.returns
returns c = least_missing
