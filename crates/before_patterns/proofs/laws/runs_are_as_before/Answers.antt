use Rattle.before_patterns.proofs.SameRuns.{paths_same, paths_were, run_same}
use Rattle.before_patterns.proofs.laws.runs_are_as_before.Goals as goal

pub returns-clause-run : goal.returns-clause-run
returns-clause-run c = run_same

pub returns-clause-paths : goal.returns-clause-paths
returns-clause-paths c = paths_same

pub returns-clause-asks : goal.returns-clause-asks
returns-clause-asks c = paths_were
