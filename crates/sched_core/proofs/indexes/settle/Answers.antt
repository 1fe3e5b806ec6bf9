use Rattle.std.proofs.Common.{arith}
use Rattle.sched_core.proofs.Flags.{missing_there}
use Rattle.sched_core.proofs.indexes.settle.Goals as goal

pub count_all_bad-requires-clause-there : goal.count_all_bad-requires-clause-there
count_all_bad-requires-clause-there c =
    λ p some. missing_there c.args.ready.now _ p c.requires.size (omega (arith, some, c.requires.counted p))
