use Rattle.std.proofs.Common.{◌≤◌, [], length}
use Rattle.bx_path.proofs.RowsMatch.{IsRightFrom}
use Rattle.bx_path.proofs.matching.start.Given as goal

abbrev pub invariant-suffixes : goal.invariant-suffixes
invariant-suffixes l = (l.at ≤ length l.pattern) × IsRightFrom l.at l.pattern [] l.row

abbrev pub decreases-suffixes : goal.decreases-suffixes
decreases-suffixes l = l.at
