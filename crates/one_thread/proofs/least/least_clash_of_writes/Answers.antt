use Rattle.one_thread.proofs.LeastPaths.{least_shared}
use Rattle.one_thread.proofs.least.least_clash_of_writes.Goals as goal

pub returns : goal.returns
returns c = least_shared
