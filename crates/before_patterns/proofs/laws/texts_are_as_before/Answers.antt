use Rattle.before_patterns.proofs.SameTexts.{paths_read, paths_same, strong_same}
use Rattle.before_patterns.proofs.laws.texts_are_as_before.Goals as goal

pub returns-clause-paths : goal.returns-clause-paths
returns-clause-paths c = paths_same

pub returns-clause-strong : goal.returns-clause-strong
returns-clause-strong c = strong_same

pub returns-clause-read : goal.returns-clause-read
returns-clause-read c = paths_read
