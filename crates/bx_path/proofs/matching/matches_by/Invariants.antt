use Rattle.std.proofs.Common.{◌≤◌, length, drop}
use Rattle.bx_path.specs.Rows.{IsRow}
use Rattle.bx_path.proofs.matching.matches_by.Given as goal

abbrev pub invariant-name : goal.invariant-name
invariant-name l = (l.left ≤ length l.name) × IsRow l.pattern (drop l.left l.name) l.row

abbrev pub decreases-name : goal.decreases-name
decreases-name l = l.left
